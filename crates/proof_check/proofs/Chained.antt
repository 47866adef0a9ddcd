-- A chain gone over, number by number.
use Rattle.std.proofs.Common.{◌≡◌, ℕ, ◌+◌, ◌<◌, ◌≤◌, Bool, false, not, ◌&&◌, ◌||◌, eqb, List, [], ◌∷◌, length, get_or, take, drop, map, ap, sym, ◌∙◌, subst, ◌↔◌, IsTrue, All}
use Rattle.std.proofs.lemmas.Bool.{false≢true}
use Rattle.std.proofs.lemmas.List.{take_more, drop_more, drop_all, take_all}
use Rattle.std.proofs.lemmas.List.Elements.{All-nil, All-cons, All-push, All-get_or, All-head, All-tail}
use Rattle.clause_base.specs.declared.literal.Lit.{Lit}
use Rattle.clause_base.specs.Literal.{positive, negative, has}
use Rattle.clause_base.specs.Resolution.{clashes, IsOnlyClash, resolvent, Gives}
use Rattle.clause_base.specs.Acceptance.{numbered, IsAcceptedChain}
use Rattle.proof_check.specs.Merging.{HasResolvent, HasNoResolvent}
use Rattle.proof_check.specs.Chain.{IsNumberOf}

clashes-same : (a b c : Lit → Bool) → ((l : Lit) → a l ≡ b l) → (w : ℕ) → clashes a c w ≡ clashes b c w
clashes-same a b c e w =
    ap (λ t. (t && c (negative w)) || (a (negative w) && c (positive w))) (e (positive w))
    ∙ ap (λ t. (b (positive w) && c (negative w)) || (t && c (positive w))) (e (negative w))

only-same : (a b c : Lit → Bool) (v : ℕ) → ((l : Lit) → a l ≡ b l) → IsOnlyClash b c v → IsOnlyClash a c v
only-same a b c v e only = (clashes-same a b c e v ∙ only.0, λ w h. only.1 w (sym (clashes-same a b c e w) ∙ h))

-- equal sets give the same
Gives-same : (a b : Lit → Bool) (clauses : List (List Lit)) (to : Lit → Bool) → ((l : Lit) → a l ≡ b l) → Gives b clauses to → Gives a clauses to
Gives-same a b [] to e gives = λ l. e l ∙ gives l
Gives-same a b (c ∷ clauses) to e (v, only, gives) =
    (v, only-same a b (has c) v e only, Gives-same (resolvent a (has c) v) (resolvent b (has c) v) clauses to (λ l. ap (λ t. (t || has c l) && not (eqb l.var v)) (e l)) gives)

-- one step of resolution can be taken off the front
Gives-step : (a : Lit → Bool) (c : List Lit) (clauses : List (List Lit)) (to : Lit → Bool) (next : Lit → Bool) → HasResolvent a c next → Gives a (c ∷ clauses) to ↔ Gives next clauses to
Gives-step a c clauses to next (v, only, is) = (
  λ (w, only_w, gives).
      let e : w ≡ v = only.1 w only_w.0 in
      let at_v : Gives (resolvent a (has c) v) clauses to = let P : ℕ → Type 0 = λ u. Gives (resolvent a (has c) u) clauses to in subst P e gives in
      Gives-same next (resolvent a (has c) v) clauses to is at_v,
  λ gives. (v, only, Gives-same (resolvent a (has c) v) next clauses to (λ l. sym (is l)) gives),
)

-- what is left of the chain gives the clause from the set at hand just where the whole chain gives it
pub record Chaining (earlier : List (List Lit)) (first : ℕ) (rest : List ℕ) (index : ℕ) (clause : List Lit) (now : Lit → Bool) : Type 0 where
  pub in_range : All (IsNumberOf earlier) (first ∷ take index rest)
  pub same : Gives now (map (numbered earlier) (drop index rest)) (has clause) ↔ Gives (has (numbered earlier first)) (map (numbered earlier) rest) (has clause)

pub chaining-start : (earlier : List (List Lit)) (first : ℕ) (rest : List ℕ) (clause : List Lit) (now : Lit → Bool) → IsNumberOf earlier first → ((l : Lit) → now l ≡ has (numbered earlier first) l) → Chaining earlier first rest 0 clause now
chaining-start earlier first rest clause now number is = record {
  in_range = All-cons (IsNumberOf earlier) first [] number (All-nil (IsNumberOf earlier));
  same = (Gives-same (has (numbered earlier first)) now (map (numbered earlier) rest) (has clause) (λ l. sym (is l)), Gives-same now (has (numbered earlier first)) (map (numbered earlier) rest) (has clause) is);
}

at_front : (earlier : List (List Lit)) (rest : List ℕ) (index : ℕ) → index < length rest → map (numbered earlier) (drop index rest) ≡ numbered earlier (get_or rest index 0) ∷ map (numbered earlier) (drop (index + 1) rest)
at_front earlier rest index within = ap (map (numbered earlier)) (drop_more rest index 0 within)

pub chaining-more : (earlier : List (List Lit)) (first : ℕ) (rest : List ℕ) (index : ℕ) (clause : List Lit) (now next : Lit → Bool) → index < length rest → Chaining earlier first rest index clause now
    → IsNumberOf earlier (get_or rest index 0) → HasResolvent now (numbered earlier (get_or rest index 0)) next → Chaining earlier first rest (index + 1) clause next
chaining-more earlier first rest index clause now next within c number resolves =
    let step = Gives-step now (numbered earlier (get_or rest index 0)) (map (numbered earlier) (drop (index + 1) rest)) (has clause) next resolves in
    let whole : Gives now (numbered earlier (get_or rest index 0) ∷ map (numbered earlier) (drop (index + 1) rest)) (has clause) ↔ Gives (has (numbered earlier first)) (map (numbered earlier) rest) (has clause) =
    subst (λ (cs : List (List Lit)). Gives now cs (has clause) ↔ Gives (has (numbered earlier first)) (map (numbered earlier) rest) (has clause)) (at_front earlier rest index within) c.same in
    record {
      in_range = rw (take_more rest index 0 within) (All-push (IsNumberOf earlier) (first ∷ take index rest) (get_or rest index 0) c.in_range number);
      same = (λ gives. whole.0 (step.1 gives), λ gives. step.0 (whole.1 gives));
    }

pub chaining-no_number : (earlier : List (List Lit)) (first : ℕ) (rest : List ℕ) (index : ℕ) (clause : List Lit) → index < length rest → ¬ (IsNumberOf earlier (get_or rest index 0)) → ¬ (IsAcceptedChain earlier (first ∷ rest) clause)
chaining-no_number earlier first rest index clause within lacks accepted =
    lacks (All-get_or (IsNumberOf earlier) rest index 0 within (All-tail (IsNumberOf earlier) first rest accepted.0))

pub chaining-no_first : (earlier : List (List Lit)) (first : ℕ) (rest : List ℕ) (clause : List Lit) → ¬ (IsNumberOf earlier first) → ¬ (IsAcceptedChain earlier (first ∷ rest) clause)
chaining-no_first earlier first rest clause lacks accepted = lacks (All-head (IsNumberOf earlier) first rest accepted.0)

pub chaining-refused : (earlier : List (List Lit)) (first : ℕ) (rest : List ℕ) (index : ℕ) (clause : List Lit) (now : Lit → Bool) → index < length rest → Chaining earlier first rest index clause now
    → HasNoResolvent now (numbered earlier (get_or rest index 0)) → ¬ (IsAcceptedChain earlier (first ∷ rest) clause)
chaining-refused earlier first rest index clause now within c none accepted =
    let gives : Gives now (numbered earlier (get_or rest index 0) ∷ map (numbered earlier) (drop (index + 1) rest)) (has clause) =
    subst (λ (cs : List (List Lit)). Gives now cs (has clause)) (at_front earlier rest index within) (c.same.1 accepted.1) in
    none gives.0 gives.1

pub chaining-decides : (earlier : List (List Lit)) (first : ℕ) (rest : List ℕ) (index : ℕ) (clause : List Lit) (now : Lit → Bool) (answer : Bool) → length rest ≤ index → Chaining earlier first rest index clause now
    → (IsTrue answer ↔ ((l : Lit) → now l ≡ has clause l)) → IsTrue answer ↔ IsAcceptedChain earlier (first ∷ rest) clause
chaining-decides earlier first rest index clause now answer past c decides =
    let range : All (IsNumberOf earlier) (first ∷ rest) = rw (← take_all index rest past) c.in_range in
    let same : ((l : Lit) → now l ≡ has clause l) ↔ Gives (has (numbered earlier first)) (map (numbered earlier) rest) (has clause) = rw (drop_all index rest past) at c.same in
    (λ yes. (range, same.0 (decides.0 yes)), λ accepted. decides.1 (same.1 accepted.1))

-- the chain begins with its first number
pub with_first : (chain : List ℕ) (first : ℕ) (rest : List ℕ) → chain ≡ first ∷ rest → chain ≡ get_or chain 0 0 ∷ rest
with_first chain first rest e = e ∙ ap (λ (n : ℕ). n ∷ rest) (sym (ap (λ (ns : List ℕ). get_or ns 0 0) e))

-- a chain that isn't accepted is answered by `false`
pub refuses : (earlier : List (List Lit)) (chain : List ℕ) (first : ℕ) (rest : List ℕ) (clause : List Lit) → chain ≡ first ∷ rest → ¬ (IsAcceptedChain earlier (first ∷ rest) clause) → IsTrue false ↔ IsAcceptedChain earlier chain clause
refuses earlier chain first rest clause e not_accepted =
    (λ h. absurd (false≢true h), λ accepted. absurd (not_accepted (subst (λ (ns : List ℕ). IsAcceptedChain earlier ns clause) e accepted)))
