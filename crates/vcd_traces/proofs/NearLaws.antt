-- The roles of codes, of which some stand in a list by their places.
use Rattle.std.proofs.Common.{◌≡◌, ◌≢◌, ℕ, zero, suc, ◌<◌, Bool, true, false, ◌&&◌, if◌then◌else◌, IsTrue, List, [], ◌∷◌, ◌++◌, length, get_or, refl, sym, ◌∙◌, ap, subst, inl, inr, Option, Some, None, nat_lt}
use Rattle.std.proofs.Math.ListN.{set}
use Rattle.std.specs.Prelude.{nat_eq, nat_le}
use Rattle.std.specs.HashMap as hash
use Rattle.std.specs.Cmp.Lexicographic.{pointwise}
use Rattle.std.specs.List.{list_all}
use Rattle.std.proofs.lemmas.Bool.{cases_Bool, cond-true, cond-false, and_parts, false≢true}
use Rattle.std.proofs.lemmas.List.{get_or-set_same, get_or-set_other}
use Rattle.loc_base.specs.Ascii.{is_visible}
use Rattle.loc_base.proofs.ShelfOptions.{Some-same}
use Rattle.vcd_words.specs.Codes.{place_of, is_short_code, CodeLaws}
use Rattle.vcd_words.proofs.CodeLaws.{code_laws}
use Rattle.vcd_reading.proofs.ByteLaws.{same_means, same_self}
use Rattle.vcd_traces.specs.declared.codes.Codes.{Codes}
use Rattle.vcd_traces.specs.declared.codes.Role.{Role}
use Rattle.vcd_traces.specs.Table.{near_place, role_at, role_of, with_role}

-- ---- no role
pub none_more : (near : List (Option Role)) → ((place : ℕ) → get_or near place None ≡ None) → (place : ℕ) → get_or (near ++ None ∷ []) place None ≡ None
none_more [] before zero = refl
none_more [] before (suc place) = refl
none_more (role ∷ near) before zero = before zero
none_more (role ∷ near) before (suc place) = none_more near (λ k. before (suc k)) place

no_role : (codes : Codes) (code : List ℕ) (place : Option ℕ) → ((k : ℕ) → get_or codes.near.items k None ≡ None)
    → hash.get_by (λ key. pointwise nat_eq code key.now) codes.far ≡ None → role_at codes code place ≡ None
no_role codes code None near far = far
no_role codes code (Some place) near far = near place

pub no_roles : (codes : Codes) (code : List ℕ) → ((k : ℕ) → get_or codes.near.items k None ≡ None)
    → hash.get_by (λ key. pointwise nat_eq code key.now) codes.far ≡ None → role_of codes code ≡ None
unfolding role_of
no_roles codes code near far = no_role codes code (near_place (length codes.near.items) code) near far

-- ---- places tell codes apart
short_place : (code : List ℕ) (count place : ℕ) → near_place count code ≡ Some place → (place_of code ≡ place) × IsTrue (list_all is_visible code)
short_place code count place is =
    elim (cases_Bool (is_short_code code)) [
      | inl short ↦
          let found : (if nat_lt (place_of code) count then Some (place_of code) else None) ≡ Some place = sym (ap (within count) (cond-true _ _ _ short)) ∙ is in
          (one (nat_lt (place_of code) count) (place_of code) place found, visible short)
      | inr long ↦ absurd (none_some place (sym (ap (within count) (cond-false _ _ _ long)) ∙ is))
    ]
  where
    within : ℕ → Option ℕ → Option ℕ
    within count None = None
    within count (Some place) = if nat_lt place count then Some place else None

    none_some : (place : ℕ) → None ≡ Some place → ⊥
    none_some place e = cc

    one : (b : Bool) (here place : ℕ) → (if b then Some here else None) ≡ Some place → here ≡ place
    one true here place is = cc
    one false here place is = cc

    visible : is_short_code code ≡ true → list_all is_visible code ≡ true
    visible short = (and_parts (nat_le 1 (length code) && nat_le (length code) 9) (list_all is_visible code) short).1

same_code : (one other : List ℕ) (count place : ℕ) → near_place count one ≡ Some place → near_place count other ≡ Some place → one ≡ other
same_code one other count place is also =
    let laws : CodeLaws = search code_laws in
    let a = short_place one count place is in
    let b = short_place other count place also in
    laws.places_differ one other a.1 b.1 (a.0 ∙ sym b.0)

-- ---- a code gets a role
abbrev far_at : Codes → List ℕ → Option Role
far_at codes code = hash.get_by (λ key. pointwise nat_eq code key.now) codes.far

near_set : (old new : Codes) (code other : List ℕ) (place : ℕ) (role : Role) (o : Option ℕ)
    → near_place (length old.near.items) code ≡ Some place → near_place (length old.near.items) other ≡ o → place < length old.near.items
    → new.near.items ≡ set old.near.items place (Some role) → new.far ≡ old.far
    → role_at new other o ≡ (if pointwise nat_eq code other then Some role else role_at old other o)
near_set old new code other place role None here there within near far =
    elim (cases_Bool (pointwise nat_eq code other)) [
      | inl same ↦
          let P : List ℕ → Type 0 = λ q. near_place (length old.near.items) q ≡ None in
          absurd (none_some place (sym (subst P (sym (same_means code other same)) there) ∙ here))
      | inr away ↦ ap (λ f. hash.get_by (λ key. pointwise nat_eq other key.now) f) far ∙ sym (cond-false _ _ _ away)
    ]
  where
    none_some : (place : ℕ) → None ≡ Some place → ⊥
    none_some place e = cc
near_set old new code other place role (Some q) here there within near far =
    elim (cases_Bool (pointwise nat_eq code other)) [
      | inl same ↦
          let P : List ℕ → Type 0 = λ l. near_place (length old.near.items) l ≡ Some q in
          let one : place ≡ q = Some-same (sym here ∙ subst P (sym (same_means code other same)) there) in
          ap (λ l. get_or l q None) near ∙ ap (λ k. get_or (set old.near.items place (Some role)) k None) (sym one)
          ∙ get_or-set_same old.near.items place (Some role) None within ∙ sym (cond-true _ _ _ same)
      | inr away ↦
          ap (λ l. get_or l q None) near ∙ get_or-set_other old.near.items place q (Some role) None (apart away) ∙ sym (cond-false _ _ _ away)
    ]
  where
    apart : pointwise nat_eq code other ≡ false → q ≢ place
    apart away same =
        let P : ℕ → Type 0 = λ k. near_place (length old.near.items) other ≡ Some k in
        let Q : List ℕ → Type 0 = λ l. pointwise nat_eq code l ≡ true in
        absurd (false≢true (sym away ∙ subst Q (same_code code other (length old.near.items) place here (subst P same there)) (same_self code)))

far_set : (old new : Codes) (code other : List ℕ) (role : Role) (o : Option ℕ)
    → near_place (length old.near.items) code ≡ None → near_place (length old.near.items) other ≡ o → new.near ≡ old.near
    → far_at new other ≡ (if pointwise nat_eq code other then Some role else far_at old other)
    → role_at new other o ≡ (if pointwise nat_eq code other then Some role else role_at old other o)
far_set old new code other role None here there near far = far
far_set old new code other role (Some q) here there near far =
    elim (cases_Bool (pointwise nat_eq code other)) [
      | inl same ↦
          let P : List ℕ → Type 0 = λ l. near_place (length old.near.items) l ≡ None in
          absurd (some_none q (sym there ∙ subst P (same_means code other same) here))
      | inr away ↦ ap (λ l. get_or l.items q None) near ∙ sym (cond-false _ _ _ away)
    ]
  where
    some_none : (place : ℕ) → Some place ≡ None → ⊥
    some_none place e = cc

pub set_near : (old new : Codes) (code : List ℕ) (place : ℕ) (role : Role) → near_place (length old.near.items) code ≡ Some place
    → place < length old.near.items → new.near.items ≡ set old.near.items place (Some role) → length new.near.items ≡ length old.near.items
    → new.far ≡ old.far → (other : List ℕ) → role_of new other ≡ with_role code role (role_of old) other
unfolding role_of
set_near old new code place role here within near count far other =
    ap (λ n. role_at new other (near_place n other)) count
    ∙ near_set old new code other place role (near_place (length old.near.items) other) here refl within near far

pub set_far : (old new : Codes) (code : List ℕ) (role : Role) → near_place (length old.near.items) code ≡ None → new.near ≡ old.near
    → ((other : List ℕ) → far_at new other ≡ (if pointwise nat_eq code other then Some role else far_at old other))
    → (other : List ℕ) → role_of new other ≡ with_role code role (role_of old) other
unfolding role_of
set_far old new code role here near far other =
    ap (λ l. role_at new other (near_place (length l.items) other)) near
    ∙ far_set old new code other role (near_place (length old.near.items) other) here refl near (far other)

pub ruleset near_steps = (none_more, no_roles)
