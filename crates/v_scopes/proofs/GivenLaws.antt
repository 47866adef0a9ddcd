-- Values by order, behind those that are given so far.
use Rattle.std.proofs.Common.{◌≡◌, ℕ, suc, ◌+◌, ◌<◌, ◌≤◌, List, [], ◌∷◌, ◌++◌, drop, length, get_or, Option, Some, None, ◌⊎◌, inl, inr, refl, sym, ap, subst, ◌∙◌, arith}
use Rattle.std.specs.Prelude.{Result, Ok, Err, IsErrAnd, IfErr, slice_get, map, option_map}
use Rattle.std.proofs.lemmas.List.{append_assoc, drop_all}
use Rattle.std.proofs.lemmas.Option.{none-some, slice_get_within, get_or_from_slice_get, slice_get_cases}
use Rattle.loc_base.proofs.ShelfLists.{drop-at}
use Rattle.v_syntax.specs.declared.expression.Expr.{Expr}
use Rattle.v_syntax.specs.Tree.{Tree, tree_of}
use Rattle.v_sizes.specs.declared.meaning.Const.{Const}
use Rattle.v_sizes.specs.Look.{Look}
use Rattle.v_hierarchy.specs.declared.error.ElabErr.{ElabErr}
use Rattle.v_hierarchy.specs.Constants.{constant_at}
use Rattle.v_hierarchy.specs.Frames.{Refuses}
use Rattle.v_scopes.specs.ValueFor.{value_for}
use Rattle.v_hierarchy.specs.Parameters.{Given, given_by_order, given_value, no_value}
use Rattle.v_hierarchy.specs.Steps.{◌>>=◌}

abbrev pub onto : List Given → Result (List Given) ElabErr → Result (List Given) ElabErr
onto done (Ok more) = Ok (done ++ more)
onto done (Err e) = Err e

-- none so far
pub onto-none : (r : Result (List Given) ElabErr) → onto [] r ≡ r
onto-none (Ok more) = refl
onto-none (Err e) = refl

onto-more : (done : List Given) (g : Given) (r : Result (List Given) ElabErr) → onto (done ++ g ∷ []) r ≡ onto done (r >>= λ more. Ok (g ∷ more))
onto-more done g (Ok more) = ap Ok (append_assoc done (g ∷ []) more)
onto-more done g (Err e) = refl

-- a value that is given
pub order-given : (look : Look) (name : List ℕ) (names : List (List ℕ)) (value : Option Tree) (rest : List (Option Tree)) (done after : List Given)
    → given_value look name value done ≡ Ok after
    → onto done (given_by_order look (name ∷ names) (value ∷ rest)) ≡ onto after (given_by_order look names rest)
order-given look name names None rest done after is = let e : done ≡ after = cc in ap (λ d. onto d (given_by_order look names rest)) e
order-given look name names (Some x) rest done after is = step (constant_at look 0 x) is
  where
    step : (c : Result Const ElabErr) → (c >>= λ v. Ok (done ++ record { name = name; value = v } ∷ [])) ≡ Ok after
        → onto done (c >>= λ v. given_by_order look names rest >>= λ more. Ok (record { name = name; value = v } ∷ more)) ≡ onto after (given_by_order look names rest)
    step (Ok v) e =
        let same : done ++ record { name = name; value = v } ∷ [] ≡ after = cc in
        sym (onto-more done (record { name = name; value = v }) (given_by_order look names rest)) ∙ ap (λ d. onto d (given_by_order look names rest)) same
    step (Err x) e = cc

-- one that is refused
pub order-refused : (look : Look) (name : List ℕ) (names : List (List ℕ)) (value : Option Tree) (rest : List (Option Tree)) (done : List Given) (e : ElabErr)
    → given_value look name value done ≡ Err e → onto done (given_by_order look (name ∷ names) (value ∷ rest)) ≡ Err e
order-refused look name names None rest done e is = cc
order-refused look name names (Some x) rest done e is = step (constant_at look 0 x) is
  where
    step : (c : Result Const ElabErr) → (c >>= λ v. Ok (done ++ record { name = name; value = v } ∷ [])) ≡ Err e
        → onto done (c >>= λ v. given_by_order look names rest >>= λ more. Ok (record { name = name; value = v } ∷ more)) ≡ Err e
    step (Ok v) is = cc
    step (Err x) is = cc

-- ---- names by order
pub drop-some : (names : List (List ℕ)) (i : ℕ) (name : List ℕ) → slice_get names i ≡ Some name → drop i names ≡ name ∷ drop (i + 1) names
drop-some names i name at = drop-at names i name (slice_get_within names i name at) (sym (get_or_from_slice_get names i name name at))

past : (names : List (List ℕ)) (i : ℕ) → slice_get names i ≡ None → length names ≤ i
past names i none = by (slice_get_cases names i).1
  where
    by : ((x : List ℕ) × (i < length names) × (slice_get names i ≡ Some x) × (get_or names i x ≡ x)) ⊎ ((length names ≤ i) × (slice_get names i ≡ None)) → length names ≤ i
    by (inl (x, within, at, read)) = absurd (none-some x (sym none ∙ at))
    by (inr (beyond, gone)) = beyond

pub drop-none : (names : List (List ℕ)) (i : ℕ) → slice_get names i ≡ None → (drop i names ≡ []) × (drop (i + 1) names ≡ [])
drop-none names i none = (drop_all i names (past names i none), drop_all (i + 1) names (omega (arith, past names i none)))

-- ---- a value at a place
no_value-refused : (look : Look) (v : Option Tree) (rest : List (Option Tree)) (done : List Given) (e : ElabErr) → (no_value v >>= λ _. Ok done) ≡ Err e
    → onto done (given_by_order look [] (v ∷ rest)) ≡ Err e
no_value-refused look None rest done e is = cc
no_value-refused look (Some x) rest done e is = cc

no_value-next : (look : Look) (v : Option Tree) (rest : List (Option Tree)) (done after : List Given) → (no_value v >>= λ _. Ok done) ≡ Ok after
    → onto done (given_by_order look [] (v ∷ rest)) ≡ onto after (given_by_order look [] rest)
no_value-next look None rest done after is = let e : done ≡ after = cc in ap (λ d. onto d (given_by_order look [] rest)) e
no_value-next look (Some x) rest done after is = cc

module _ (look : Look) (names : List (List ℕ)) (values : List (Option Expr)) (i : ℕ) (v : Option Expr) (within : i < length values) (is : v ≡ get_or values i v) (done : List Given) where
  abbrev plain : List (Option Expr) → List (Option Tree)
  plain xs = map (option_map tree_of) xs

  begin : (rest : List (List ℕ)) → given_by_order look rest (plain (drop i values)) ≡ given_by_order look rest (option_map tree_of v ∷ plain (drop (i + 1) values))
  begin rest = ap (λ l. given_by_order look rest (plain l)) (drop-at values i v within is)

  pub order-next : (o : Option (List ℕ)) (after : List Given) → o ≡ slice_get names i → value_for look o (option_map tree_of v) done ≡ Ok after
      → onto after (given_by_order look (drop (i + 1) names) (plain (drop (i + 1) values))) ≡ onto done (given_by_order look (drop i names) (plain (drop i values)))
  order-next (Some name) after at ok =
      sym (ap (λ n. onto done (given_by_order look n (plain (drop i values)))) (drop-some names i name (sym at)) ∙ ap (onto done) (begin (name ∷ drop (i + 1) names))
      ∙ order-given look name (drop (i + 1) names) (option_map tree_of v) (plain (drop (i + 1) values)) done after ok)
  order-next None after at ok =
      sym (ap (λ n. onto done (given_by_order look n (plain (drop i values)))) (drop-none names i (sym at)).0 ∙ ap (onto done) (begin [])
      ∙ no_value-next look (option_map tree_of v) (plain (drop (i + 1) values)) done after ok
      ∙ sym (ap (λ n. onto after (given_by_order look n (plain (drop (i + 1) values)))) (drop-none names i (sym at)).1))

  order-stop : (o : Option (List ℕ)) (e : ElabErr) → o ≡ slice_get names i → value_for look o (option_map tree_of v) done ≡ Err e
      → onto done (given_by_order look (drop i names) (plain (drop i values))) ≡ Err e
  order-stop (Some name) e at bad =
      ap (λ n. onto done (given_by_order look n (plain (drop i values)))) (drop-some names i name (sym at)) ∙ ap (onto done) (begin (name ∷ drop (i + 1) names))
      ∙ order-refused look name (drop (i + 1) names) (option_map tree_of v) (plain (drop (i + 1) values)) done e bad
  order-stop None e at bad =
      ap (λ n. onto done (given_by_order look n (plain (drop i values)))) (drop-none names i (sym at)).0 ∙ ap (onto done) (begin [])
      ∙ no_value-refused look (option_map tree_of v) (plain (drop (i + 1) values)) done e bad

  pub order-refuses : (o : Option (List ℕ)) (e : ElabErr) (all : Result (List Given) ElabErr) → o ≡ slice_get names i
      → onto done (given_by_order look (drop i names) (plain (drop i values))) ≡ all → Refuses (value_for look o (option_map tree_of v) done) e → Refuses all e
  order-refuses o e all at inside (inl memory) = inl memory
  order-refuses o e all at inside (inr bad) = inr (sym inside ∙ order-stop o e at bad)

-- a refusal that is passed on
pub passed_on : {T : Type 0} (P : ElabErr → Type 0) (r : Result T ElabErr) (e : ElabErr) → IsErrAnd r (λ y. y ≡ e) → P e → IfErr r P
passed_on P (Ok x) e same fact = tt
passed_on P (Err y) e same fact = subst P (sym same) fact
