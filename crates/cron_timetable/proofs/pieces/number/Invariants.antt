use Rattle.std.proofs.Common.{◌≡◌, ◌<◌, ◌≤◌, take, true}
use Rattle.std.specs.List.{list_all}
use Rattle.cron_timetable.specs.Elements.{decimal, is_digit}
use Rattle.cron_timetable.proofs.pieces.number.Given as goal

abbrev pub invariant-loop-byte : goal.invariant-loop-byte
invariant-loop-byte l = record {
  value : l.number ≡ decimal (take l.byte-index l.text);
  digits : list_all is_digit (take l.byte-index l.text) ≡ true;
  none : l.byte-index ≤ 0 → l.number < 1;
  one : l.byte-index ≤ 1 → l.number < 10;
  two : l.byte-index ≤ 2 → l.number < 100;
  three : l.byte-index ≤ 3 → l.number < 1000;
  four : l.byte-index ≤ 4 → l.number < 10000;
}
