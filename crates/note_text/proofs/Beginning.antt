-- Texts behind which more stands.
use Rattle.std.proofs.Common.{ℕ, ◌≡◌, ◌++◌, List, [], ap, refl, ◌∙◌, Result, Ok, Err}
use Rattle.std.specs.Prelude.{OnOk}
use Rattle.std.proofs.lemmas.List.{append_assoc}
use Rattle.note_text.specs.Texts.{Begins}

pub on-ok : {X E : Type 0} {P Q : Type 0} → (r : Result X E) → OnOk r P → (P → Q) → OnOk r Q
on-ok (Ok x) holds gives = gives holds
on-ok (Err e) holds gives = tt

-- something was appended
pub appended : {old new : List ℕ} → (more : List ℕ) → new ≡ old ++ more → Begins [] old new
appended more is = record { more = more; is = is }

-- and more after it
pub appended-on : {old mid new : List ℕ} → Begins [] old mid → Begins [] mid new → Begins [] old new
appended-on {old = old} first next = record {
  more = first.more ++ next.more;
  is = next.is ∙ ap (λ t. t ++ next.more) first.is ∙ append_assoc old first.more next.more;
}

-- a piece was appended, and more after it
pub begins : {old mid new : List ℕ} → (piece : List ℕ) → mid ≡ old ++ piece → Begins [] mid new → Begins piece old new
begins {old = old} piece is next =
    record { more = next.more; is = next.is ∙ ap (λ t. t ++ next.more) is ∙ append_assoc old piece next.more }

-- two pieces
pub begins-both : {old mid last new : List ℕ} → (first second : List ℕ) → mid ≡ old ++ first → last ≡ mid ++ second
    → Begins [] last new → Begins (first ++ second) old new
begins-both {old = old} first second is then next =
    begins (first ++ second) (then ∙ ap (λ t. t ++ second) is ∙ append_assoc old first second) next

-- a name, a place and words, and more after them
pub begins-place : {old named placed said new : List ℕ} → (name spot words : List ℕ) → named ≡ old ++ name → placed ≡ named ++ spot
    → Begins words placed said → Begins [] said new → Begins (name ++ spot ++ words) old new
begins-place {old = old} {named = named} name spot words is then says next = record {
  more = says.more ++ next.more;
  is = next.is ∙ ap (λ t. t ++ next.more) says.is
      ∙ ap (λ t. t ++ (words ++ says.more) ++ next.more) (then ∙ ap (λ t. t ++ spot) is)
      ∙ rejoined;
}
  where
    rejoined : old ++ name ++ spot ++ (words ++ says.more) ++ next.more ≡ old ++ ((name ++ spot ++ words) ++ (says.more ++ next.more))
    rejoined = simp append_assoc refl
