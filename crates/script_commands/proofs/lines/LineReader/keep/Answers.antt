use Rattle.std.proofs.Common.{◌≡◌, ◌∙◌, ◌≤◌, [], ◌∷◌, ◌++◌, length, ap, sym, arith}
use Rattle.std.proofs.lemmas.List.{length-append, take_all, take-append-le}
use Rattle.script_commands.specs.Lines.{Held, line_limit}
use Rattle.script_commands.proofs.lines.LineReader.keep.Goals as goal

pub returns-then-len-lt-LINE_LIMIT-clause-line : goal.returns-then-len-lt-LINE_LIMIT-clause-line
returns-then-len-lt-LINE_LIMIT-clause-line c =
    let here : length c.self.inside.line.items ≡ length c.args.self.now.line = ap (λ (h : Held). length h.line) c.self.view_is in
    let room : length (c.args.self.now.line ++ c.args.byte ∷ []) ≤ line_limit =
    omega (arith, here, c.self.inside.line.ok.0, length-append c.args.self.now.line (c.args.byte ∷ [])) in
    c.push_reserved.ensures.items
    ∙ (ap (λ (h : Held). h.line ++ c.args.byte ∷ []) c.self.view_is ∙ sym (take_all line_limit _ room))

pub returns-else-len-lt-LINE_LIMIT-clause-line : goal.returns-else-len-lt-LINE_LIMIT-clause-line
returns-else-len-lt-LINE_LIMIT-clause-line c =
    let here : length c.self.inside.line.items ≡ length c.args.self.now.line = ap (λ (h : Held). length h.line) c.self.view_is in
    let full : line_limit ≤ length c.args.self.now.line = omega (arith, here, c.self.inside.line.ok.0) in
    let within : length c.args.self.now.line ≤ line_limit = omega (arith, here, c.self.invariant.0) in
    sym (take-append-le line_limit c.args.self.now.line (c.args.byte ∷ []) full ∙ take_all line_limit c.args.self.now.line within)
