use Rattle.std.proofs.Common.{refl}
use Rattle.answer_lines.specs.Listings.{listing_text}
use Rattle.script_reader.proofs.ShownLemmas.{counted_put}
use Rattle.script_reader.proofs.answers.Answers.list.Goals as goal

pub returns : goal.returns
returns g c = (
  0,
  listing_text c.args.schedule.now.content c.args.listing,
  (refl, refl, refl),
  counted_put g.W.Write.contents _ _ _ _ c.args.self.now (record c.args.self.now { output = c.put_listing-put.new.output }) _ c.put_listing-put.ensures refl refl c.count.ensures.counted c.count.ensures.put,
)
