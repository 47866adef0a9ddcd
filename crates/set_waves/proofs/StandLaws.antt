-- What stands under the names of waves, and under other names, behind the writes of all waves.
use Rattle.std.proofs.Common.{◌≡◌, ◌≢◌, ℕ, zero, suc, ◌+◌, ◌<◌, ◌≤◌, ◌^◌, Bool, true, false, cond, List, [], ◌∷◌, ◌++◌, length}
use Rattle.std.proofs.Common.{Option, Some, None, refl, ap, sym, subst, ◌∙◌, arith, unwrap_or}
use Rattle.std.specs.Prelude.{slice_get}
use Rattle.std.specs.Str.{bytes_eq}
use Rattle.std.specs.Cmp.Lexicographic.{bytes_decides}
use Rattle.std.proofs.lemmas.Option.{slice_get_within}
use Rattle.loc_base.proofs.ShelfOptions.{Some-same}
use Rattle.design_core.specs.declared.trace.Trace.{Trace}
use Rattle.design_core.specs.declared.values.Values.{Values}
use Rattle.design_core.specs.declared.values.SetWithValues.{SetWithValues}
use Rattle.design_core.specs.Valuation.{Valuation}
use Rattle.write_order.specs.Writes.{text_behind}
use Rattle.write_order.proofs.Carried.{text_behind-append}
use Rattle.set_waves.specs.Names.{IsNoWave, wave_name}
use Rattle.set_waves.specs.Scenes.{wave_text}
use Rattle.set_waves.specs.Waved.{Runs, Waved}
use Rattle.set_waves.specs.Writes.{scene_of, set_writes, text_writes, waves_of, waves_writes}
use Rattle.set_waves.proofs.NameLaws.{never-named, same-names}

-- ---- two writes of a text
differs : (name other : List ℕ) → name ≢ other → bytes_eq name other ≡ false
differs name other apart = at (bytes_eq name other) refl
  where
    at : (b : Bool) → bytes_eq name other ≡ b → b ≡ false
    at true e = absurd (apart ((bytes_decides name other).0 e))
    at false e = refl

same-bytes : (name : List ℕ) → bytes_eq name name ≡ true
same-bytes name = (bytes_decides name name).1 refl

-- under another name they leave what stood
pub writes-elsewhere : (name other text : List ℕ) (was : Option (List ℕ)) → name ≢ other
    → text_behind name (text_writes other text) was ≡ was
writes-elsewhere name other text was apart =
    ap (λ (b : Bool). cond b (Some (unwrap_or (cond b (Some []) was) [] ++ text)) (cond b (Some []) was)) (differs name other apart)

-- under their own the text stands
pub writes-here : (name text : List ℕ) (was : Option (List ℕ)) → text_behind name (text_writes name text) was ≡ Some text
writes-here name text was =
    ap (λ (b : Bool). cond b (Some (unwrap_or (cond b (Some []) was) [] ++ text)) (cond b (Some []) was)) (same-bytes name)

-- ---- the waves of a set
module _ (w : Waved) (prefix : List ℕ) where
  -- under a name that is no wave's of the set from a trace on
  set-elsewhere : (name : List ℕ) (number : ℕ) (values : Values) (runs : ℕ → List Valuation) (j : ℕ) (traces : List Trace)
      → ((i : ℕ) → j ≤ i → i < j + length traces → name ≢ wave_name prefix number (i + 1)) → (was : Option (List ℕ))
      → text_behind name (set_writes w prefix number values runs j traces) was ≡ was
  set-elsewhere name number values runs j [] apart was = refl
  set-elsewhere name number values runs j (trace ∷ traces) apart was =
      set-elsewhere name number values runs (j + 1) traces (λ i low high. apart i (omega (arith, low)) (omega (arith, high)))
      (text_behind name (text_writes (wave_name prefix number (j + 1)) (wave_text (scene_of w values j trace) (runs j))) was)
      ∙ writes-elsewhere name (wave_name prefix number (j + 1)) (wave_text (scene_of w values j trace) (runs j)) was
      (apart j (omega arith) (omega arith))

  set-stands : (number : ℕ) (values : Values) (runs : ℕ → List Valuation) (j : ℕ) (traces : List Trace) (k : ℕ) (trace : Trace)
      → number < 2 ^ 64 → j + length traces < 2 ^ 64 → slice_get traces k ≡ Some trace → (was : Option (List ℕ))
      → text_behind (wave_name prefix number (j + k + 1)) (set_writes w prefix number values runs j traces) was
      ≡ Some (wave_text (scene_of w values (j + k) trace) (runs (j + k)))
  set-stands number values runs j [] k trace few many at was = absurd (cc)
  set-stands number values runs j (other ∷ traces) zero trace few many at was =
      ap (λ n. text_behind (wave_name prefix number (n + 1)) (set_writes w prefix number values runs j (other ∷ traces)) was) (none j)
      ∙ set-elsewhere (wave_name prefix number (j + 1)) number values runs (j + 1) traces later
      (text_behind (wave_name prefix number (j + 1))
      (text_writes (wave_name prefix number (j + 1)) (wave_text (scene_of w values j other) (runs j))) was)
      ∙ writes-here (wave_name prefix number (j + 1)) (wave_text (scene_of w values j other) (runs j)) was
      ∙ ap (λ (x : Trace). Some (wave_text (scene_of w values j x) (runs j))) (Some-same at)
      ∙ ap (λ n. Some (wave_text (scene_of w values n trace) (runs n))) (sym (none j))
    where
      none : (n : ℕ) → n + 0 ≡ n
      none n = omega arith

      later : (i : ℕ) → j + 1 ≤ i → i < j + 1 + length traces → wave_name prefix number (j + 1) ≢ wave_name prefix number (i + 1)
      later i low high same =
          let e : j + 1 ≡ i + 1 =
          (same-names prefix number (j + 1) number (i + 1) few (omega (arith, many)) few (omega (arith, many, high)) same).1 in
          omega (arith, e, low)
  set-stands number values runs j (other ∷ traces) (suc k) trace few many at was =
      ap (λ n. text_behind (wave_name prefix number (n + 1)) (set_writes w prefix number values runs j (other ∷ traces)) was) (next j k)
      ∙ set-stands number values runs (j + 1) traces k trace few (omega (arith, many)) at
      (text_behind (wave_name prefix number (j + 1 + k + 1))
      (text_writes (wave_name prefix number (j + 1)) (wave_text (scene_of w values j other) (runs j))) was)
      ∙ ap (λ n. Some (wave_text (scene_of w values n trace) (runs n))) (sym (next j k))
    where
      next : (m n : ℕ) → m + suc n ≡ m + 1 + n
      next m n = omega arith

  start : (n : ℕ) → 0 + n ≡ n
  start n = omega arith

  set-stands-here : (number : ℕ) (values : Values) (runs : ℕ → List Valuation) (traces : List Trace) (k : ℕ) (trace : Trace)
      → number < 2 ^ 64 → length traces < 2 ^ 64 → slice_get traces k ≡ Some trace → (was : Option (List ℕ))
      → text_behind (wave_name prefix number (k + 1)) (set_writes w prefix number values runs 0 traces) was
      ≡ Some (wave_text (scene_of w values k trace) (runs k))
  set-stands-here number values runs traces k trace few many at was =
      subst (λ n. text_behind (wave_name prefix number (n + 1)) (set_writes w prefix number values runs 0 traces) was
      ≡ Some (wave_text (scene_of w values n trace) (runs n))) (start k)
      (set-stands number values runs 0 traces k trace few (omega (arith, many)) at was)

  -- ---- the waves of all sets
  sets-elsewhere : (name : List ℕ) (runs : Runs) (s : ℕ) (sets : List SetWithValues)
      → ((n i : ℕ) → s ≤ n → n < s + length sets → i < length w.traces → name ≢ wave_name prefix (n + 1) (i + 1)) → (was : Option (List ℕ))
      → text_behind name (waves_writes w prefix runs s sets) was ≡ was
  sets-elsewhere name runs s [] apart was = refl
  sets-elsewhere name runs s (set ∷ sets) apart was =
      text_behind-append name (set_writes w prefix (s + 1) set.values (runs s) 0 w.traces) (waves_writes w prefix runs (s + 1) sets) was
      ∙ sets-elsewhere name runs (s + 1) sets (λ n i low high. apart n i (omega (arith, low)) (omega (arith, high)))
      (text_behind name (set_writes w prefix (s + 1) set.values (runs s) 0 w.traces) was)
      ∙ set-elsewhere name (s + 1) set.values (runs s) 0 w.traces (λ i low high. apart s i (omega arith) (omega arith) (omega (arith, high))) was

  sets-stand : (runs : Runs) (s : ℕ) (sets : List SetWithValues) (k j : ℕ) (set : SetWithValues) (trace : Trace)
      → s + length sets < 2 ^ 64 → length w.traces < 2 ^ 64 → slice_get sets k ≡ Some set → slice_get w.traces j ≡ Some trace
      → (was : Option (List ℕ))
      → text_behind (wave_name prefix (s + k + 1) (j + 1)) (waves_writes w prefix runs s sets) was
      ≡ Some (wave_text (scene_of w set.values j trace) (runs (s + k) j))
  sets-stand runs s [] k j set trace few many at there was = absurd (cc)
  sets-stand runs s (other ∷ sets) zero j set trace few many at there was =
      ap (λ n. text_behind (wave_name prefix (n + 1) (j + 1)) (waves_writes w prefix runs s (other ∷ sets)) was) (none s)
      ∙ text_behind-append (wave_name prefix (s + 1) (j + 1)) (set_writes w prefix (s + 1) other.values (runs s) 0 w.traces)
      (waves_writes w prefix runs (s + 1) sets) was
      ∙ sets-elsewhere (wave_name prefix (s + 1) (j + 1)) runs (s + 1) sets later
      (text_behind (wave_name prefix (s + 1) (j + 1)) (set_writes w prefix (s + 1) other.values (runs s) 0 w.traces) was)
      ∙ set-stands-here (s + 1) other.values (runs s) w.traces j trace (omega (arith, few)) many there was
      ∙ ap (λ (x : SetWithValues). Some (wave_text (scene_of w x.values j trace) (runs s j))) (Some-same at)
      ∙ ap (λ n. Some (wave_text (scene_of w set.values j trace) (runs n j))) (sym (none s))
    where
      none : (n : ℕ) → n + 0 ≡ n
      none n = omega arith

      later : (n i : ℕ) → s + 1 ≤ n → n < s + 1 + length sets → i < length w.traces
          → wave_name prefix (s + 1) (j + 1) ≢ wave_name prefix (n + 1) (i + 1)
      later n i low high within same =
          let e : s + 1 ≡ n + 1 =
          (same-names prefix (s + 1) (j + 1) (n + 1) (i + 1) (omega (arith, few)) (omega (arith, slice_get_within w.traces j trace there, many))
          (omega (arith, few, high)) (omega (arith, within, many)) same).0 in
          omega (arith, e, low)
  sets-stand runs s (other ∷ sets) (suc k) j set trace few many at there was =
      ap (λ n. text_behind (wave_name prefix (n + 1) (j + 1)) (waves_writes w prefix runs s (other ∷ sets)) was) (next s k)
      ∙ text_behind-append (wave_name prefix (s + 1 + k + 1) (j + 1)) (set_writes w prefix (s + 1) other.values (runs s) 0 w.traces)
      (waves_writes w prefix runs (s + 1) sets) was
      ∙ sets-stand runs (s + 1) sets k j set trace (omega (arith, few)) many at there
      (text_behind (wave_name prefix (s + 1 + k + 1) (j + 1)) (set_writes w prefix (s + 1) other.values (runs s) 0 w.traces) was)
      ∙ ap (λ n. Some (wave_text (scene_of w set.values j trace) (runs n j))) (sym (next s k))
    where
      next : (m n : ℕ) → m + suc n ≡ m + 1 + n
      next m n = omega arith

  -- the wave of a set and a trace stands under its name
  pub wave-stands : (runs : Runs) (sets : List SetWithValues) (s j : ℕ) (set : SetWithValues) (trace : Trace)
      → length sets < 2 ^ 64 → length w.traces < 2 ^ 64 → slice_get sets s ≡ Some set → slice_get w.traces j ≡ Some trace
      → (was : Option (List ℕ))
      → text_behind (wave_name prefix (s + 1) (j + 1)) (waves_writes w prefix runs 0 sets) was
      ≡ Some (wave_text (scene_of w set.values j trace) (runs s j))
  wave-stands runs sets s j set trace few many at there was =
      subst (λ n. text_behind (wave_name prefix (n + 1) (j + 1)) (waves_writes w prefix runs 0 sets) was
      ≡ Some (wave_text (scene_of w set.values j trace) (runs n j))) (start s)
      (sets-stand runs 0 sets s j set trace (omega (arith, few)) many at there was)

-- what no wave names is as it was
pub waves-elsewhere : (prefix : Option (List ℕ)) (w : Waved) (runs : Runs) (sets : List SetWithValues) (name : List ℕ) → IsNoWave prefix name
    → (was : Option (List ℕ)) → text_behind name (waves_of prefix w runs sets) was ≡ was
waves-elsewhere None w runs sets name none was = refl
waves-elsewhere (Some prefix) w runs sets name none was =
    sets-elsewhere w prefix name runs 0 sets (λ n i low high within. never-named prefix name (n + 1) (i + 1) none) was
