use Rattle.std.proofs.Common.{ℕ, List, ◌++◌, codes, subst, OnOk}
use Rattle.std.specs.Fmt.{decimal}
use Rattle.std.specs.Io.KnownBytes.{Appends}
use Rattle.answer_lines.proofs.record_faults.put_inconsistent.Goals as goal

pub returns : goal.returns
returns g c =
    subst (λ (name : List ℕ). OnOk c.writeln.result (Appends (g.W.Write.contents c.args.output.now) (g.W.Write.contents c.writeln.new.self) (codes "store 3 Inconsistent " ++ (name ++ (codes " " ++ (decimal c.args.row ++ codes "\n"))))))
    c.table_name-table.ensures c.writeln.ensures.bytes
