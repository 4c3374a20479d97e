use Rattle.graph_file.proofs.TableLemmas.{name_at}
use Rattle.graph_file.proofs.building.names_of.Goals as goal

pub of-requires : goal.of-requires
of-requires c =
    rw (c.text_of.ensures, c.value-item.is) (name_at c.args.values.now c.loop-value.value-index c.value-item.result c.requires c.loop-value-test.true)
