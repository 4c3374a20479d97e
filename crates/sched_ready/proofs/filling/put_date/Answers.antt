use Rattle.std.proofs.Common.{◌∙◌, ap}
use Rattle.std.specs.BTreeSet.{insert_key}
use Rattle.std.specs.Ordering.{nat_cmp}
use Rattle.sched_ready.proofs.FillLemmas.{put_ready, put_waiting}
use Rattle.sched_ready.proofs.LeadLemmas.{pair_cmp}
use Rattle.sched_ready.proofs.filling.put_date.Goals as goal

pub returns-then-moment-now-clause-marked : goal.returns-then-moment-now-clause-marked
returns-then-moment-now-clause-marked c =
    (put_ready c.args.now c.args.moment c.args.date c.args.queue.now c.mark.new.self.keys c.if-moment-now.true (c.mark.ensures.keys ∙ ap (λ ks. insert_key nat_cmp ks c.args.date) c.reserve.ensures.keys)).0

pub returns-then-moment-now-clause-kept : goal.returns-then-moment-now-clause-kept
returns-then-moment-now-clause-kept c =
    (put_ready c.args.now c.args.moment c.args.date c.args.queue.now c.mark.new.self.keys c.if-moment-now.true (c.mark.ensures.keys ∙ ap (λ ks. insert_key nat_cmp ks c.args.date) c.reserve.ensures.keys)).1

pub returns-clause-marked : goal.returns-clause-marked
returns-clause-marked c =
    (put_waiting c.args.now c.args.moment c.args.date c.args.queue.now c.mark-2.new.self.keys c.if-moment-now.false (c.mark-2.ensures.keys ∙ ap (λ ks. insert_key pair_cmp ks (c.args.moment, c.args.date)) c.reserve-2.ensures.keys)).0

pub returns-clause-kept : goal.returns-clause-kept
returns-clause-kept c =
    (put_waiting c.args.now c.args.moment c.args.date c.args.queue.now c.mark-2.new.self.keys c.if-moment-now.false (c.mark-2.ensures.keys ∙ ap (λ ks. insert_key pair_cmp ks (c.args.moment, c.args.date)) c.reserve-2.ensures.keys)).1
