-- Lists of reasons, one kind after another; and an instance without reasons has none of each kind.
use Rattle.std.proofs.Common.{◌≡◌, ◌∙◌, refl, ap, true, false, Bool, List, [], ◌∷◌, ◌++◌, Option, Some, None}
use Rattle.sched_model.specs.Schedule.{Schedule}
use Rattle.explain.specs.Reasons as reason
use Rattle.explain.specs.Reasons.{given, if_so, reasons}
use Rattle.explain.specs.Subjects.{SubjectValue}
use Rattle.explain.specs.declared.reasons.Reason.{Reason}

-- ---- one more kind
pub added : {xs ys zs : List Reason} {o p : Option Reason} → zs ≡ ys ++ given o → o ≡ p → ys ≡ xs → zs ≡ xs ++ given p
added {xs} {ys} {zs} {o} {p} more is so_far = more ∙ (ap (λ (rs : List Reason). rs ++ given o) so_far ∙ ap (λ (q : Option Reason). xs ++ given q) is)

pub joined : {xs ys zs : List Reason} (rs : List Reason) → zs ≡ ys ++ rs → ys ≡ xs → zs ≡ xs ++ rs
joined {xs} {ys} {zs} rs more so_far = more ∙ ap (λ (qs : List Reason). qs ++ rs) so_far

-- ---- no kind
append-none : {X : Type 0} (xs ys : List X) → xs ++ ys ≡ [] → (xs ≡ []) × (ys ≡ [])
append-none [] ys e = (refl, e)
append-none {X} (x ∷ xs) ys e = absurd (let f : ◌≡◌ {A = List X} (x ∷ (xs ++ ys)) [] = e in cc)

given-none : (o : Option Reason) → given o ≡ [] → o ≡ None
given-none None e = refl
given-none (Some r) e = absurd (let f : ◌≡◌ {A = List Reason} (r ∷ []) [] = e in cc)

pub if_so-none : {X : Type 0} (b : Bool) (o : Option X) → if_so b o ≡ None → b ≡ true → o ≡ None
if_so-none true o e f = e
if_so-none false o e f = absurd (let g : false ≡ true = f in cc)

pub record IsSilent (a : Schedule) (s : SubjectValue) : Type 0 where
  pub finished : reason.finished s ≡ None
  pub handed : reason.handed_out s ≡ None
  pub queued : reason.run_queued a s ≡ None
  pub paused : reason.paused s ≡ None
  pub ended : reason.run_finished s ≡ None
  pub upstreams : reason.upstreams a s ≡ []
  pub past : reason.past a s ≡ None
  pub retry : reason.retry_later a s ≡ None
  pub pool : reason.pool_full a s ≡ None
  pub full : reason.graph_full a s ≡ None
  pub lanes : reason.lanes_full a s ≡ None

pub silent : (a : Schedule) (s : SubjectValue) → reasons a s ≡ [] → IsSilent a s
unfolding reasons
silent a s e =
    let p1 : List Reason = given (reason.finished s) in
    let p2 : List Reason = p1 ++ given (reason.handed_out s) in
    let p3 : List Reason = p2 ++ given (reason.run_queued a s) in
    let p4 : List Reason = p3 ++ given (reason.paused s) in
    let p5 : List Reason = p4 ++ given (reason.run_finished s) in
    let p6 : List Reason = p5 ++ reason.upstreams a s in
    let p7 : List Reason = p6 ++ given (reason.past a s) in
    let p8 : List Reason = p7 ++ given (reason.retry_later a s) in
    let p9 : List Reason = p8 ++ given (reason.pool_full a s) in
    let p10 : List Reason = p9 ++ given (reason.graph_full a s) in
    let c11 = append-none p10 (given (reason.lanes_full a s)) e in
    let c10 = append-none p9 (given (reason.graph_full a s)) c11.0 in
    let c9 = append-none p8 (given (reason.pool_full a s)) c10.0 in
    let c8 = append-none p7 (given (reason.retry_later a s)) c9.0 in
    let c7 = append-none p6 (given (reason.past a s)) c8.0 in
    let c6 = append-none p5 (reason.upstreams a s) c7.0 in
    let c5 = append-none p4 (given (reason.run_finished s)) c6.0 in
    let c4 = append-none p3 (given (reason.paused s)) c5.0 in
    let c3 = append-none p2 (given (reason.run_queued a s)) c4.0 in
    let c2 = append-none p1 (given (reason.handed_out s)) c3.0 in
    record {
      finished = given-none (reason.finished s) c2.0;
      handed = given-none (reason.handed_out s) c2.1;
      queued = given-none (reason.run_queued a s) c3.1;
      paused = given-none (reason.paused s) c4.1;
      ended = given-none (reason.run_finished s) c5.1;
      upstreams = c6.1;
      past = given-none (reason.past a s) c7.1;
      retry = given-none (reason.retry_later a s) c8.1;
      pool = given-none (reason.pool_full a s) c9.1;
      full = given-none (reason.graph_full a s) c10.1;
      lanes = given-none (reason.lanes_full a s) c11.1;
    }
