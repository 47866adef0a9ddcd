-- Value changes are taken in with the cycles so far.
use Rattle.std.proofs.Common.{◌≡◌, ℕ, not, List, refl, sym, ◌∙◌, subst, inl, inr, Result, Ok, Err}
use Rattle.std.proofs.lemmas.Bool.{cases_Bool, cond-true, cond-false}
use Rattle.vcd_words.specs.declared.level.Level.{Level}
use Rattle.vcd_words.specs.Words.{Placed}
use Rattle.vcd_reading.specs.declared.error.VcdErr.{VcdErr}
use Rattle.vcd_traces.specs.declared.reader.Reading.{Reading}
use Rattle.vcd_reading.specs.Scopes.{Sought, is_declared, is_of_port, is_too_long}
use Rattle.vcd_reading.specs.Changes.{Past, changed, passed_over, with_event}
use Rattle.vcd_traces.specs.Samples.{Watches}
use Rattle.vcd_traces.specs.Levels.{Keeps, Does}
use Rattle.vcd_traces.specs.Plan.{Holds}
use Rattle.vcd_traces.proofs.HoldLaws.{holds_change}

-- what a deed leaves in one view it leaves in another
does_map : {R S : Type 0} (deed : Result Past ℕ) (one : Past → R → Type 0) (other : Past → S → Type 0) (r : Result (Unit {0}) VcdErr) (x : R) (y : S)
    → ((next : Past) → deed ≡ Ok next → one next x → other next y) → Does deed one r x → Does deed other r y
does_map (Ok next) one other (Ok done) x y gives fact = gives next refl fact
does_map (Ok next) one other (Err fault) x y gives fact = fact
does_map (Err at) one other (Ok done) x y gives fact = fact
does_map (Err at) one other (Err fault) x y gives fact = fact

changed_next : (sought : Sought) (past : Past) (level : Level) (digits at : ℕ) (code : Placed) (next : Past) → changed sought past level digits at code ≡ Ok next
    → with_event past code.word level ≡ next
changed_next sought past level digits at code next is =
    elim (cases_Bool (not (is_declared past.header code.word))) [
      | inl none ↦ let e = sym (cond-true _ _ _ none) ∙ is in absurd (apart code.at next e)
      | inr some ↦
          let rest = sym (cond-false _ _ _ some) ∙ is in
          elim (cases_Bool (is_too_long past.header sought code.word digits)) [
            | inl long ↦ let e = sym (cond-true _ _ _ long) ∙ rest in absurd (apart at next e)
            | inr fits ↦ let e = sym (cond-false _ _ _ fits) ∙ rest in same (with_event past code.word level) next e
          ]
    ]
  where
    apart : (a : ℕ) (p : Past) → (let deed : Result Past ℕ = Err a in deed ≡ Ok p) → ⊥
    apart a p e = cc

    same : (p q : Past) → (let deed : Result Past ℕ = Ok p in deed ≡ Ok q) → p ≡ q
    same p q e = cc

passed_next : (sought : Sought) (past : Past) (at : ℕ) (code : Placed) (next : Past) → passed_over sought past at code ≡ Ok next → past ≡ next
passed_next sought past at code next is =
    elim (cases_Bool (not (is_declared past.header code.word))) [
      | inl none ↦ let e = sym (cond-true _ _ _ none) ∙ is in absurd (apart code.at next e)
      | inr some ↦
          let rest = sym (cond-false _ _ _ some) ∙ is in
          elim (cases_Bool (is_of_port past.header sought code.word)) [
            | inl its ↦ let e = sym (cond-true _ _ _ its) ∙ rest in absurd (apart at next e)
            | inr other ↦ let e = sym (cond-false _ _ _ other) ∙ rest in same past next e
          ]
    ]
  where
    apart : (a : ℕ) (p : Past) → (let deed : Result Past ℕ = Err a in deed ≡ Ok p) → ⊥
    apart a p e = cc

    same : (p q : Past) → (let deed : Result Past ℕ = Ok p in deed ≡ Ok q) → p ≡ q
    same p q e = cc

-- a change
pub takes_change : (w : Watches) (cells : List (List ℕ)) (sought : Sought) (past : Past) (level : Level) (digits at : ℕ) (code : Placed) (old new : Reading)
    (r : Result (Unit {0}) VcdErr) → Holds w cells past old → new.rows ≡ old.rows
    → Does (changed sought past level digits at code) (Keeps cells) r new.levels → Does (changed sought past level digits at code) (Holds w cells) r new
takes_change w cells sought past level digits at code old new r holds rows does =
    does_map (changed sought past level digits at code) (Keeps cells) (Holds w cells) r new.levels new
    (λ next is keeps.
    let same = changed_next sought past level digits at code next is in
    let K : Past → Type 0 = λ p. Keeps cells p new.levels in
    let H : Past → Type 0 = λ p. Holds w cells p new in
    subst H same (holds_change w cells past old new code.word level holds rows (subst K (sym same) keeps)))
    does

-- a value that is no bits
pub takes_pass : (w : Watches) (cells : List (List ℕ)) (sought : Sought) (past : Past) (at : ℕ) (code : Placed) (reading : Reading)
    (r : Result (Unit {0}) VcdErr) → Holds w cells past reading
    → Does (passed_over sought past at code) (Keeps cells) r reading.levels → Does (passed_over sought past at code) (Holds w cells) r reading
takes_pass w cells sought past at code reading r holds does =
    does_map (passed_over sought past at code) (Keeps cells) (Holds w cells) r reading.levels reading
    (λ next is keeps. let H : Past → Type 0 = λ p. Holds w cells p reading in subst H (passed_next sought past at code next is) holds) does
