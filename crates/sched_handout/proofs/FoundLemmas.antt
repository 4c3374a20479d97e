-- Candidates, found one after another.
use Rattle.std.proofs.Common.{◌≡◌, ◌∙◌, ◌⊎◌, inl, inr, refl, sym, ap, subst, ℕ, zero, suc, ◌+◌, ◌<◌, List, [], ◌∷◌, ◌++◌, Bool, true, false, not, ◌&&◌, ◌||◌, cond, length, Contains, Option, Some, None, option_map, slice_get, nat_eq, true≢false, arith}
use Rattle.std.proofs.lemmas.Bool.{eq-eqb, eqb-true, false_from_ne_true, or_left, or_right}
use Rattle.dag_check.specs.Orders.{is_in}
use Rattle.sched_state.specs.declared.graphs.LoadedGraph.{LoadedGraph}
use Rattle.sched_state.specs.declared.runs.Run.{Run}
use Rattle.sched_model.specs.Schedule.{graph_among, is_running}
use Rattle.sched_draft.specs.run_lists.Marks.{Mark, is_touched, is_touched_at, runs_of, touched_from, touched_in}
use Rattle.sched_draft.specs.run_lists.Overlays.{AreAllTouched}
use Rattle.sched_draft.proofs.run_lists.LawLemmas.{there_over}
use Rattle.sched_laws.proofs.DecisionLemmas.{by_bool}
use Rattle.sched_handout.specs.Candidates.{AreCandidatesOf, Head, IsCandidate, IsOffering, head, heads, is_going, may_offer, positions}
use Rattle.sched_handout.specs.declared.candidates.Candidate.{Candidate}
use Rattle.sched_ready.proofs.PlaceLemmas.{touched_within}
use Rattle.sched_handout.proofs.ListLemmas.{added_get, append_none, map_get}

-- ---- one more at the end
positions_more : (cs : List Candidate) (c : Candidate) → positions (cs ++ c ∷ []) ≡ positions cs ++ c.run ∷ []
positions_more [] c = refl
positions_more (d ∷ cs) c = ap (λ ps. d.run ∷ ps) (positions_more cs c)

in_more : (ps : List ℕ) (n m : ℕ) → is_in ps m ≡ true → is_in (ps ++ n ∷ []) m ≡ true
in_more [] n m e = absurd (true≢false (sym e))
in_more (p ∷ ps) n m e = by_bool {C = (nat_eq p m || is_in (ps ++ n ∷ []) m) ≡ true} (nat_eq p m)
    (λ f. or_left (nat_eq p m) _ f)
    (λ f. or_right (nat_eq p m) _ (in_more ps n m (sym (ap (λ b. b || is_in ps m) f) ∙ e)))

in_last : (ps : List ℕ) (n : ℕ) → is_in (ps ++ n ∷ []) n ≡ true
in_last [] n = or_left (nat_eq n n) _ (eq-eqb n n refl)
in_last (p ∷ ps) n = or_right (nat_eq p n) _ (in_last ps n)

-- ---- one run
pub head_at : (rs : List Run) (n : ℕ) (r : Run) → slice_get rs n ≡ Some r → slice_get (heads rs) n ≡ Some (head r)
head_at rs n r e = map_get head rs n ∙ ap (option_map head) e

head_is : (rs : List Run) (n : ℕ) (r : Run) (h : Head) → slice_get rs n ≡ Some r → slice_get (heads rs) n ≡ Some h → head r ≡ h
head_is rs n r h e f = let c : ◌≡◌ {A = Option Head} (Some (head r)) (Some h) = sym (head_at rs n r e) ∙ f in cc

-- it is not running, or its graph is not there, or is paused
pub passed_over : (gs : List LoadedGraph) (rs : List Run) (n : ℕ) (r : Run) → slice_get rs n ≡ Some r → may_offer gs (head r) ≡ false → IsOffering gs (heads rs) n None
passed_over gs rs n r e quiet = λ h f. ap (may_offer gs) (sym (head_is rs n r h e f)) ∙ quiet

-- a graph that is there and not paused is going
going : (o : Option LoadedGraph) → option_map (λ (g : LoadedGraph). g.paused) o ≡ Some false → is_going o ≡ true
going None e = absurd (let c : ◌≡◌ {A = Option Bool} None (Some false) = e in cc)
going (Some g) e = let c : ◌≡◌ {A = Option Bool} (Some g.paused) (Some false) = e in let is : g.paused ≡ false = cc in ap not is

pub offering : (gs : List LoadedGraph) (rs : List Run) (n p : ℕ) (r : Run) (c : Candidate) → slice_get rs n ≡ Some r → is_running r.phase ≡ true → option_map (λ (g : LoadedGraph). g.paused) (slice_get gs p) ≡ Some false
    → c.run ≡ n → c.graph ≡ p → p < length gs → slice_get gs p ≡ graph_among gs r.graph → IsOffering gs (heads rs) n (Some c)
offering gs rs n p r c e runs unpaused run graph within there = (
  run,
  record {
    head = head r;
    head_is = ap (slice_get (heads rs)) run ∙ head_at rs n r e;
    within = subst (λ m. m < length gs) (sym graph) within;
    graph = ap (slice_get gs) graph ∙ there;
  },
)

none_and : (b : Bool) → (b && false) ≡ false
none_and true = refl
none_and false = refl

pub not_running : (gs : List LoadedGraph) (h : Head) → h.running ≡ false → may_offer gs h ≡ false
not_running gs h e = ap (λ b. b && is_going (graph_among gs h.graph)) e

-- ---- the touched runs, one after another
in_split : (ns : List ℕ) (n m : ℕ) → is_in (ns ++ n ∷ []) m ≡ true → (is_in ns m ≡ true) ⊎ (n ≡ m)
in_split [] n m e = by_bool {C = (false ≡ true) ⊎ (n ≡ m)} (nat_eq n m) (λ f. inr (eqb-true n m f)) (λ f. absurd (true≢false (sym e ∙ ap (λ b. b || false) f)))
in_split (k ∷ ns) n m e = by_bool {C = ((nat_eq k m || is_in ns m) ≡ true) ⊎ (n ≡ m)} (nat_eq k m)
    (λ f. inl (ap (λ b. b || is_in ns m) f))
    (λ f. elim (in_split ns n m (sym (ap (λ b. b || is_in (ns ++ n ∷ []) m) f) ∙ e)) [ inl i ↦ inl (or_right (nat_eq k m) _ i) | inr i ↦ inr i ])

-- those among the touched positions that are left behind, and the others
pub record IsLooking (gs : List LoadedGraph) (hs : List Head) (touched left : List ℕ) (cs : List Candidate) : Type 0 where
  pub before : List ℕ
  pub parts : touched ≡ before ++ left
  pub found : AreCandidatesOf gs hs before cs

pub looking_first : (gs : List LoadedGraph) (hs : List Head) (touched left : List ℕ) → left ≡ touched → IsLooking gs hs touched left []
looking_first gs hs touched left e = record {
  before = [];
  parts = sym e;
  found = record {
    each = λ i c f. absurd (let d : ◌≡◌ {A = Option Candidate} None (Some c) = f in cc);
    covered = λ n h i f g. absurd (true≢false (sym i));
  };
}

append_one : (ns : List ℕ) (n : ℕ) (rest : List ℕ) → ns ++ n ∷ rest ≡ (ns ++ n ∷ []) ++ rest
append_one [] n rest = refl
append_one (k ∷ ns) n rest = ap (λ ms. k ∷ ms) (append_one ns n rest)

pub looking_over : (gs : List LoadedGraph) (hs : List Head) (touched left rest : List ℕ) (n : ℕ) (cs : List Candidate) → left ≡ n ∷ rest → ((h : Head) → slice_get hs n ≡ Some h → may_offer gs h ≡ false) → IsLooking gs hs touched left cs → IsLooking gs hs touched rest cs
looking_over gs hs touched left rest n cs e quiet h = record {
  before = h.before ++ n ∷ [];
  parts = h.parts ∙ (ap (λ ms. h.before ++ ms) e ∙ append_one h.before n rest);
  found = record {
    each = h.found.each;
    covered = λ m g i f o. elim (in_split h.before n m i) [
      | inl j ↦ h.found.covered m g j f o
      | inr j ↦ absurd (true≢false (sym o ∙ quiet g (ap (slice_get hs) j ∙ f)))
    ];
  };
}

pub looking_more : (gs : List LoadedGraph) (hs : List Head) (touched left rest : List ℕ) (n : ℕ) (cs ds : List Candidate) (c : Candidate) → left ≡ n ∷ rest → (c.run ≡ n) × IsCandidate gs hs c → ds ≡ cs ++ c ∷ []
    → IsLooking gs hs touched left cs → IsLooking gs hs touched rest ds
looking_more gs hs touched left rest n cs ds c e is now h =
    let ps : positions ds ≡ positions cs ++ n ∷ [] = ap (λ es. positions es) now ∙ (positions_more cs c ∙ ap (λ p. positions cs ++ p ∷ []) is.0) in
    record {
      before = h.before ++ n ∷ [];
      parts = h.parts ∙ (ap (λ ms. h.before ++ ms) e ∙ append_one h.before n rest);
      found = record {
        each = λ i d f. added_get cs c d i (IsCandidate gs hs d) (ap (λ es. slice_get es i) (sym now) ∙ f) (λ g. h.found.each i d g) (λ g. subst (IsCandidate gs hs) g is.1);
        covered = λ m g i f o. elim (in_split h.before n m i) [
          | inl j ↦ ap (λ qs. is_in qs m) ps ∙ in_more (positions cs) n m (h.found.covered m g j f o)
          | inr j ↦ ap (λ qs. is_in qs m) ps ∙ (ap (is_in (positions cs ++ n ∷ [])) (sym j) ∙ in_last (positions cs) n)
        ];
      };
    }

pub looking_done : (gs : List LoadedGraph) (hs : List Head) (touched left : List ℕ) (cs : List Candidate) → length left ≡ 0 → IsLooking gs hs touched left cs → AreCandidatesOf gs hs touched cs
looking_done gs hs touched left cs e h = subst (λ ns. AreCandidatesOf gs hs ns cs) (sym (h.parts ∙ (ap (λ ms. h.before ++ ms) (none left e) ∙ append_none h.before))) h.found
  where
    none : (ms : List ℕ) → length ms ≡ 0 → ms ≡ []
    none [] f = refl
    none (m ∷ ms) f = absurd (omega (arith, f))

-- the next of the touched positions
pub next_within : (gs : List LoadedGraph) (hs : List Head) (touched left rest : List ℕ) (n : ℕ) (cs : List Candidate) (a b : List Run) → left ≡ n ∷ rest → AreAllTouched touched a b → IsLooking gs hs touched left cs → n < length b
next_within gs hs touched left rest n cs a b e all h = touched_within touched a b n all (ap (λ ns. is_in ns n) (h.parts ∙ ap (λ ms. h.before ++ ms) e) ∙ among h.before n rest)
  where
    among : (ks : List ℕ) (m : ℕ) (ms : List ℕ) → is_in (ks ++ m ∷ ms) m ≡ true
    among [] m ms = ap (λ b. b || is_in ms m) (eq-eqb m m refl)
    among (k ∷ ks) m ms = or_right (nat_eq k m) _ (among ks m ms)
