-- What is kept before the first change.
use Rattle.std.proofs.Common.{◌≡◌, ℕ, zero, suc, List, [], ◌∷◌, ◌++◌, length, refl, sym, subst, Option, Some, None}
use Rattle.std.specs.Prelude.{slice_get}
use Rattle.vcd_traces.specs.declared.reader.Reading.{Reading}
use Rattle.vcd_traces.specs.declared.running.Running.{Running}
use Rattle.vcd_reading.specs.Header.{Header}
use Rattle.vcd_traces.specs.Samples.{Watches, moments}
use Rattle.vcd_traces.specs.Running.{Follows, first_running}
use Rattle.vcd_traces.specs.Rows.{Kept, no_rows, rows_of}
use Rattle.vcd_traces.specs.Kept.{AreKept}
use Rattle.vcd_reading.specs.Outcomes.{begun}
use Rattle.vcd_traces.specs.Plan.{Holds}

-- one more element that is as all others are
pub all_same : {X : Type 0} (xs : List X) (y : X) → ((k : ℕ) (x : X) → slice_get xs k ≡ Some x → x ≡ y) → (k : ℕ) (x : X)
    → slice_get (xs ++ y ∷ []) k ≡ Some x → x ≡ y
all_same [] y before zero x is = cc
all_same [] y before (suc k) x is = cc
all_same (z ∷ xs) y before zero x is = before zero x is
all_same (z ∷ xs) y before (suc k) x is = all_same xs y (λ j other at. before (suc j) other at) k x is

no_moments : (clock : Option (List ℕ)) → moments clock [] [] ≡ []
no_moments None = refl
no_moments (Some code) = refl

none_some : {X : Type 0} (x : X) → (let none : Option X = None in none ≡ Some x) → ⊥
none_some x e = cc

follows_first : (code : List ℕ) → Follows code None [] first_running
follows_first code = record { level = refl; before = λ time is. absurd (none_some time is); late = refl }

pub begins : (w : Watches) (cells : List (List ℕ)) (h : Header) (reading : Reading) → reading.levels.time ≡ None
    → length reading.levels.running.items ≡ length cells → ((k : ℕ) (r : Running) → slice_get reading.levels.running.items k ≡ Some r → r ≡ first_running)
    → rows_of reading.rows ≡ no_rows → Holds w cells (begun h) reading
begins w cells h reading time count same rows = record {
  levels = record {
    time = time;
    count = count;
    events = refl;
    each = λ k code r at is. let P : Running → Type 0 = Follows code None [] in subst P (sym (same k r is)) (follows_first code);
  };
  ended = refl;
  rows =
      let P : Kept → Type 0 = AreKept w [] (moments w.clock [] []) in
      let Q : List ℕ → Type 0 = λ times. AreKept w [] times no_rows in
      subst P (sym rows) (subst Q (sym (no_moments w.clock)) (record { cycles = refl; unknown = λ few. refl; rows = λ few none. refl }));
}

pub ruleset begin_steps = (all_same, begins)
