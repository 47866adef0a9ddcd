-- The lines of traces, one trace after another; and that there are some, and but one list of them.
use Rattle.std.proofs.Common.{◌≡◌, ℕ, ◌+◌, ◌≤◌, List, [], ◌∷◌, ◌++◌, length, drop, map, refl, ap, sym, subst, ◌∙◌}
use Rattle.std.specs.Prelude.{Some, slice_get}
use Rattle.std.specs.List.{flat_map}
use Rattle.std.proofs.lemmas.List.{append-nil, append_assoc, drop_all, length-map, map-append}
use Rattle.std.proofs.lemmas.Option.{slice_get_within, get_or_from_slice_get}
use Rattle.loc_base.proofs.ShelfLists.{drop-at}
use Rattle.design_core.specs.declared.trace.Trace.{Trace}
use Rattle.design_core.specs.Explained.{is_one_of}
use Rattle.design_core.specs.Run.{IsRun}
use Rattle.design_core.specs.Valuation.{Valuation}
use Rattle.design_core.proofs.RunLaws.{run-exists, run-unique}
use Rattle.cycle_sim.specs.Replaying.{choices_from}
use Rattle.cycle_sim.specs.Simulated.{IsSimulable}
use Rattle.change_lines.specs.Lines.{AreChangeLines, ChangeLine, Told, change_text, head_text, run_changes, set_text}
use Rattle.change_lines.proofs.RunSteps.{run_texts}

-- so many traces were run, and these are the texts of their lines
pub record StandsAt (s : Told) (traces : List Trace) (lines : List ChangeLine) (k first : ℕ) (texts : List (List ℕ)) : Type 0 where
  pub rest : List ChangeLine
  pub left : AreChangeLines s (k + 1) first (drop k traces) rest
  pub whole : map change_text lines ≡ texts ++ map change_text rest

pub stands-none : (s : Told) (traces : List Trace) (lines : List ChangeLine) → AreChangeLines s 1 0 traces lines → StandsAt s traces lines 0 0 []
stands-none s traces lines are = record { rest = lines; left = are; whole = refl }

drop-next : {X : Type 0} (xs : List X) (k : ℕ) (x : X) → slice_get xs k ≡ Some x → drop k xs ≡ x ∷ drop (k + 1) xs
drop-next xs k x at = drop-at xs k x (slice_get_within xs k x at) (sym (get_or_from_slice_get xs k x x at))

pub stands-more : (s : Told) (traces : List Trace) (lines : List ChangeLine) (k first : ℕ) (trace : Trace) (texts new : List (List ℕ))
    → slice_get traces k ≡ Some trace → StandsAt s traces lines k first texts
    → ((run : List Valuation) → IsRun s.design trace (is_one_of s.values.places.items) (choices_from s.values first) run
    → new ≡ texts ++ run_texts s (k + 1) first 0 run)
    → StandsAt s traces lines (k + 1) (first + trace.cycles) new
stands-more s traces lines k first trace texts new at before shows =
    with_own (subst (λ ts. AreChangeLines s (k + 1) first ts before.rest) (drop-next traces k trace at) before.left)
  where
    with_own : AreChangeLines s (k + 1) first (trace ∷ drop (k + 1) traces) before.rest → StandsAt s traces lines (k + 1) (first + trace.cycles) new
    with_own (run, later, is, more, whole) = record {
      rest = later;
      left = more;
      whole = before.whole ∙ ap (λ ls. texts ++ map change_text ls) whole
          ∙ ap (λ ls. texts ++ ls) (map-append change_text (run_changes s (k + 1) first 0 run) later)
          ∙ sym (append_assoc texts (run_texts s (k + 1) first 0 run) (map change_text later))
          ∙ ap (λ ls. ls ++ map change_text later) (sym (shows run is));
    }

pub stands-all : (s : Told) (traces : List Trace) (lines : List ChangeLine) (k first : ℕ) (texts : List (List ℕ)) → length traces ≤ k
    → StandsAt s traces lines k first texts → texts ≡ map change_text lines
stands-all s traces lines k first texts past before =
    let none : before.rest ≡ [] = subst (λ ts. AreChangeLines s (k + 1) first ts before.rest) (drop_all k traces past) before.left in
    sym (before.whole ∙ ap (λ ls. texts ++ map change_text ls) none ∙ append-nil texts)

-- ---- the text
flat-texts : (lines : List ChangeLine) → flat_map (λ (text : List ℕ). text) (map change_text lines) ≡ flat_map change_text lines
flat-texts [] = refl
flat-texts (line ∷ lines) = ap (λ t. change_text line ++ t) (flat-texts lines)

pub text-whole : (members : List ℕ) (lines : List ChangeLine) (texts : List (List ℕ)) (text : List ℕ) → texts ≡ map change_text lines
    → text ≡ head_text members (length texts) ++ flat_map (λ (line : List ℕ). line) texts → text ≡ set_text members lines
text-whole members lines texts text are is =
    is ∙ ap (λ ts. head_text members (length ts) ++ flat_map (λ (line : List ℕ). line) ts) are
    ∙ ap (λ n. head_text members n ++ flat_map (λ (line : List ℕ). line) (map change_text lines)) (length-map lines change_text)
    ∙ ap (λ t. head_text members (length lines) ++ t) (flat-texts lines)

-- ---- laws
pub lines-exist : (s : Told) (order : List ℕ) → IsSimulable s.design order → (number first : ℕ) (traces : List Trace)
    → (lines : List ChangeLine) × AreChangeLines s number first traces lines
lines-exist s order k number first [] = ([], refl)
lines-exist s order k number first (trace ∷ traces) =
    let (run, is) = run-exists s.design order k.well_formed k.once k.ordered trace (is_one_of s.values.places.items) (choices_from s.values first) in
    let (later, are) = lines-exist s order k (number + 1) (first + trace.cycles) traces in
    (run_changes s number first 0 run ++ later, (run, later, is, are, refl))

pub lines-unique : (s : Told) (order : List ℕ) → IsSimulable s.design order → (number first : ℕ) (traces : List Trace) (one other : List ChangeLine)
    → AreChangeLines s number first traces one → AreChangeLines s number first traces other → one ≡ other
lines-unique s order k number first [] one other are alike = are ∙ sym alike
lines-unique s order k number first (trace ∷ traces) one other (run, later, is, are, whole) (run', later', is', are', whole') =
    let same = run-unique s.design order k.well_formed k.ordered trace (is_one_of s.values.places.items) (choices_from s.values first) run run' is is' in
    let rest = lines-unique s order k (number + 1) (first + trace.cycles) traces later later' are are' in
    whole ∙ ap (λ r. run_changes s number first 0 r ++ later) same ∙ ap (λ l. run_changes s number first 0 run' ++ l) rest ∙ sym whole'
