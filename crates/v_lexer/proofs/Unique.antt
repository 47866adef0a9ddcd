-- A text is read in one way only: one cut into pieces, and one outcome.
use Rattle.std.proofs.Common.{◌≡◌, ℕ, suc, ◌<◌, ◌≤◌, ◌⊎◌, inl, inr, Bool, List, [], ◌∷◌, ◌++◌, length, refl, sym, ◌∙◌, ap, subst, arith, Option, Some, None, Result, Ok, Err}
use Rattle.std.proofs.lemmas.List.{append-nil}
use Rattle.v_lexer.specs.declared.types.refusal.LexErr.{LexErr}
use Rattle.v_lexer.specs.declared.types.refusal.LexErr.TheVariants.{OpenIf, TooLong}
use Rattle.v_lexer.specs.declared.pieces.Piece.{Piece}
use Rattle.v_lexer.specs.declared.position.Position.{Position}
use Rattle.v_lexer.specs.declared.conditionals.Conditional.{Conditional}
use Rattle.v_lexer.specs.declared.state.State.{State}
use Rattle.v_lexer.specs.Lexeme.{Lexeme}
use Rattle.v_lexer.specs.Conditionals.{is_skipping, outermost}
use Rattle.v_lexer.specs.Pieces.{kind_in, IsPiece}
use Rattle.v_lexer.specs.Acts.{Step, goes, stops, expands, does, past, inside, nowhere}
use Rattle.v_lexer.specs.Tokens.{Turn, Reads, at_end, at_fault, behind_piece, within_macro, behind_macro, ReadsText, HasOutcome, is_long, is_faulty, is_open, is_whole, HasTokens, HasFault}
use Rattle.v_lexer.specs.Outcomes.{UnlessNoMemory}
use Rattle.v_lexer.proofs.ReadingLaws.{unless_map}

-- two cuts of a text into two: the one piece begins the other
Seam : List ℕ → List ℕ → List ℕ → List ℕ → Type 0
Seam p b q d = ((m : List ℕ) × (p ++ m ≡ q) × (m ++ d ≡ b)) ⊎ ((m : List ℕ) × (q ++ m ≡ p) × (m ++ b ≡ d))

seam_more : (x y : ℕ) (p b q d : List ℕ) → x ≡ y → Seam p b q d → Seam (x ∷ p) b (y ∷ q) d
unfolding Seam
seam_more x y p b q d e (inl (m, joins, behind)) = inl (m, ap (λ z. z ∷ (p ++ m)) e ∙ ap (λ l. y ∷ l) joins, behind)
seam_more x y p b q d e (inr (m, joins, behind)) = inr (m, ap (λ z. z ∷ (q ++ m)) (sym e) ∙ ap (λ l. x ∷ l) joins, behind)

seam : (p b q d : List ℕ) → p ++ b ≡ q ++ d → Seam p b q d
unfolding Seam
seam [] b q d e = inl (q, refl, sym e)
seam (x ∷ p) b [] d e = inr (x ∷ p, refl, e)
seam (x ∷ p) b (y ∷ q) d e = seam_more x y p b q d (cc) (seam p b q d (cc))

-- the first piece of a text is one
pub record SamePiece (p b q d : List ℕ) (k l : Piece) : Type 0 where
  pub piece : p ≡ q
  pub behind : b ≡ d
  pub kind : k ≡ l

one_kind : (o : Option Piece) (k l : Piece) → o ≡ Some k → o ≡ Some l → k ≡ l
one_kind o k l e f = cc

no_kind : (o : Option Piece) (k : Piece) → o ≡ Some k → o ≡ None → ⊥
no_kind o k e f = cc

same_front : (skipping : Bool) (k l : Piece) (p b q d m : List ℕ) → IsPiece skipping k p b → IsPiece skipping l q d → p ++ m ≡ q → m ++ d ≡ b → SamePiece p b q d k l
same_front skipping k l p b q d [] first second joins behind =
    let same : p ≡ q = sym (append-nil p) ∙ joins in
    record { piece = same; behind = sym behind; kind = one_kind (kind_in skipping q) k l (ap (kind_in skipping) (sym same) ∙ first.is_one) second.is_one }
same_front skipping k l p b q d (x ∷ m) first second joins behind =
    absurd (no_kind (kind_in skipping q) l second.is_one (ap (kind_in skipping) (sym joins) ∙ first.longest (x ∷ m) d behind (λ e. absurd (cc))))

turned : (p b q d : List ℕ) (k l : Piece) → SamePiece p b q d k l → SamePiece q d p b l k
turned p b q d k l same = record { piece = sym same.piece; behind = sym same.behind; kind = sym same.kind }

by_seam : (skipping : Bool) (k l : Piece) (p b q d : List ℕ) → IsPiece skipping k p b → IsPiece skipping l q d → Seam p b q d → SamePiece p b q d k l
unfolding Seam
by_seam skipping k l p b q d first second (inl (m, joins, behind)) = same_front skipping k l p b q d m first second joins behind
by_seam skipping k l p b q d first second (inr (m, joins, behind)) = turned q d p b l k (same_front skipping l k q d p b m second first joins behind)

pub one_piece : (skipping : Bool) (k l : Piece) (p b q d : List ℕ) → IsPiece skipping k p b → IsPiece skipping l q d → p ++ b ≡ q ++ d → SamePiece p b q d k l
one_piece skipping k l p b q d first second e = by_seam skipping k l p b q d first second (seam p b q d e)

-- so a turn is one
pub record SameTurn (p b q d : List ℕ) (first second : Step) : Type 0 where
  pub piece : p ≡ q
  pub behind : b ≡ d
  pub step : first ≡ second

one_turn : (left : ℕ) (s : State) (place : Position) (text p b q d : List ℕ) (first second : Step)
    → Turn left s place text p b first → Turn left s place text q d second → SameTurn p b q d first second
one_turn left s place text p b q d first second t u =
    let same : SamePiece p b q d t.kind u.kind =
    one_piece (is_skipping s.conditionals) t.kind u.kind p b q d t.is_piece u.is_piece (sym t.joins ∙ u.joins) in
    record {
      piece = same.piece;
      behind = same.behind;
      step = sym t.does_it ∙ ap (λ k. does left s place k p) same.kind ∙ ap (does left s place u.kind) same.piece ∙ u.does_it;
    }

no_front : (p b : List ℕ) (text : List ℕ) → text ≡ p ++ b → text ≡ [] → p ≡ []
no_front [] b text e f = refl
no_front (x ∷ p) b text e f = absurd (cc)

no_turn : (left : ℕ) (s : State) (place : Position) (text p b : List ℕ) (step : Step) → Turn left s place text p b step → text ≡ [] → ⊥
no_turn left s place text p b step turn empty =
    no_kind (kind_in (is_skipping s.conditionals) p) turn.kind turn.is_piece.is_one (ap (kind_in (is_skipping s.conditionals)) (no_front p b text turn.joins empty))

-- what comes behind a step
Behind : ℕ → Position → List ℕ → List ℕ → Result State LexErr → Result State LexErr → Type 0
Behind left place p b (Err fault) outcome = outcome ≡ Err fault
Behind left place p b (Ok u) outcome = Reads left u (past place p) b outcome

Next : ℕ → Position → List ℕ → List ℕ → Step → Result State LexErr → Type 0
Next left place p b (goes t) outcome = Reads left t (past place p) b outcome
Next left place p b (stops fault) outcome = outcome ≡ Err fault
Next left place p b (expands body t) outcome =
    (less : ℕ) × (inner : Result State LexErr) × (left ≡ suc less) × Reads less t (inside place p) body inner × Behind left place p b inner outcome

along : (left : ℕ) (place : Position) (p b q d : List ℕ) (first second : Step) (outcome : Result State LexErr) → SameTurn p b q d first second
    → Next left place p b first outcome → Next left place q d second outcome
along left place p b q d first second outcome same next =
    subst (λ x. Next left place x d second outcome) same.piece
    (subst (λ x. Next left place p x second outcome) same.behind
    (subst (λ x. Next left place p b x outcome) same.step next))

invert : {left : ℕ} {s : State} {place : Position} {text : List ℕ} {outcome : Result State LexErr} → Reads left s place text outcome
    → (p b : List ℕ) (step : Step) → Turn left s place text p b step → Next left place p b step outcome
unfolding Next Behind
invert (at_end {left = left} {s = s} {place = place}) p b step turn = absurd (no_turn left s place [] p b step turn refl)
invert (at_fault {left = left} {s = s} {place = place} {text = text} {piece = q} {behind = d} {fault = fault} found) p b step turn =
    along left place q d p b (stops fault) step (Err fault) (one_turn left s place text q d p b (stops fault) step found turn) refl
invert (behind_piece {left = left} {s = s} {t = t} {place = place} {text = text} {piece = q} {behind = d} {outcome = outcome} found rest) p b step turn =
    along left place q d p b (goes t) step outcome (one_turn left s place text q d p b (goes t) step found turn) rest
invert (within_macro {left = left} {less = less} {s = s} {t = t} {place = place} {text = text} {piece = q} {behind = d} {body = body} {fault = fault} found deeper inner) p b step turn =
    along left place q d p b (expands body t) step (Err fault) (one_turn left s place text q d p b (expands body t) step found turn)
    (less, Err fault, deeper, inner, refl)
invert (behind_macro {left = left} {less = less} {s = s} {t = t} {u = u} {place = place} {text = text} {piece = q} {behind = d} {body = body} {outcome = outcome} found deeper inner rest) p b step turn =
    along left place q d p b (expands body t) step outcome (one_turn left s place text q d p b (expands body t) step found turn)
    (less, Ok u, deeper, inner, rest)

ends_only : {left : ℕ} {s : State} {place : Position} {text : List ℕ} {outcome : Result State LexErr} → Reads left s place text outcome → text ≡ [] → Ok s ≡ outcome
ends_only at_end e = refl
ends_only (at_fault {left = left} {s = s} {place = place} {text = text} {piece = q} {behind = d} {fault = fault} found) e =
    absurd (no_turn left s place text q d (stops fault) found e)
ends_only (behind_piece {left = left} {s = s} {t = t} {place = place} {text = text} {piece = q} {behind = d} found rest) e =
    absurd (no_turn left s place text q d (goes t) found e)
ends_only (within_macro {left = left} {s = s} {t = t} {place = place} {text = text} {piece = q} {behind = d} {body = body} found deeper inner) e =
    absurd (no_turn left s place text q d (expands body t) found e)
ends_only (behind_macro {left = left} {s = s} {t = t} {place = place} {text = text} {piece = q} {behind = d} {body = body} found deeper inner rest) e =
    absurd (no_turn left s place text q d (expands body t) found e)

err_behind : (left : ℕ) (place : Position) (p b : List ℕ) (fault : LexErr) (inner outcome : Result State LexErr) → Err fault ≡ inner → Behind left place p b inner outcome → Err fault ≡ outcome
unfolding Behind
err_behind left place p b fault (Err found) outcome same is = same ∙ sym is
err_behind left place p b fault (Ok u) outcome same is = absurd (cc)

ok_behind : (left : ℕ) (place : Position) (p b : List ℕ) (u : State) (inner outcome : Result State LexErr) → Ok u ≡ inner → Behind left place p b inner outcome → Reads left u (past place p) b outcome
unfolding Behind
ok_behind left place p b u (Err found) outcome same is = absurd (cc)
ok_behind left place p b u (Ok v) outcome same is = let states : v ≡ u = cc in subst (λ w. Reads left w (past place p) b outcome) states is

-- one outcome of a text
pub one_outcome : {left : ℕ} {s : State} {place : Position} {text : List ℕ} {first : Result State LexErr} → Reads left s place text first
    → (second : Result State LexErr) → Reads left s place text second → first ≡ second
unfolding Next
one_outcome at_end second reads = ends_only reads refl
one_outcome (at_fault {piece = q} {behind = d} {fault = fault} found) second reads = sym (invert reads q d (stops fault) found)
one_outcome (behind_piece {t = t} {piece = q} {behind = d} found rest) second reads = one_outcome rest second (invert reads q d (goes t) found)
one_outcome (within_macro {left = left} {less = less} {t = t} {place = place} {piece = q} {behind = d} {body = body} {fault = fault} found deeper inner) second reads =
    let next : Next left place q d (expands body t) second = invert reads q d (expands body t) found in
    let levels : next.0 ≡ less = omega (arith, next.2, deeper) in
    err_behind left place q d fault next.1 second
    (one_outcome inner next.1 (subst (λ n. Reads n t (inside place q) body next.1) levels next.3)) next.4
one_outcome (behind_macro {left = left} {less = less} {t = t} {u = u} {place = place} {piece = q} {behind = d} {body = body} found deeper inner rest) second reads =
    let next : Next left place q d (expands body t) second = invert reads q d (expands body t) found in
    let levels : next.0 ≡ less = omega (arith, next.2, deeper) in
    one_outcome rest second
    (ok_behind left place q d u next.1 second (one_outcome inner next.1 (subst (λ n. Reads n t (inside place q) body next.1) levels next.3)) next.4)

-- what the end of a text makes of the last state
closed : State → Result (List Lexeme) LexErr
closed last = elim (outermost last.conditionals) [ Some first ↦ Err (OpenIf first.opener) | None ↦ Ok last.tokens ]

finished : Result State LexErr → Result (List Lexeme) LexErr
finished (Ok last) = closed last
finished (Err fault) = Err fault

Finishes : List ℕ → Result (List Lexeme) LexErr → Type 0
Finishes text outcome = ((16777216 < length text) × (outcome ≡ Err (TooLong nowhere)))
    ⊎ ((length text ≤ 16777216) × (read : Result State LexErr) × ReadsText text read × (outcome ≡ finished read))

finishes : {text : List ℕ} {outcome : Result (List Lexeme) LexErr} → HasOutcome text outcome → Finishes text outcome
unfolding Finishes finished closed
finishes (is_long long) = inl (long, refl)
finishes (is_faulty {fault = fault} short reads) = inr (short, Err fault, reads, refl)
finishes (is_open {last = last} {first = first} short reads opened) =
    inr (short, Ok last, reads, sym (ap (λ o. elim o [ Some c ↦ Err (OpenIf c.opener) | None ↦ Ok last.tokens ]) opened))
finishes (is_whole {last = last} short reads none) =
    inr (short, Ok last, reads, sym (ap (λ o. elim o [ Some c ↦ Err (OpenIf c.opener) | None ↦ Ok last.tokens ]) (ap outermost none)))

one_finish : (text : List ℕ) (a b : Result (List Lexeme) LexErr) → Finishes text a → Finishes text b → a ≡ b
unfolding Finishes
one_finish text a b (inl (long, is)) (inl (also, same)) = is ∙ sym same
one_finish text a b (inl (long, is)) (inr (short, read, reads, same)) = absurd (omega arith)
one_finish text a b (inr (short, read, reads, is)) (inl (long, same)) = absurd (omega arith)
one_finish text a b (inr (short, read, reads, is)) (inr (also, other, others, same)) = is ∙ ap finished (one_outcome reads other others) ∙ sym same

-- a text has one outcome: its tokens, or its fault
pub one_text : (text : List ℕ) (a b : Result (List Lexeme) LexErr) → HasOutcome text a → HasOutcome text b → a ≡ b
one_text text a b first second = one_finish text a b (finishes first) (finishes second)

pub no_other_tokens : (text : List ℕ) (found : List Lexeme) → HasTokens text found → (tokens : List Lexeme) → HasTokens text tokens → found ≡ tokens
no_other_tokens text found is tokens has = let same : Ok found ≡ Ok tokens = one_text text (Ok found) (Ok tokens) is has in cc

pub no_fault : (text : List ℕ) (found : List Lexeme) → HasTokens text found → (fault : LexErr) → HasFault text fault → ⊥
no_fault text found is fault has = let same : Ok found ≡ Err fault = one_text text (Ok found) (Err fault) is has in cc

pub no_tokens : (text : List ℕ) (fault : LexErr) → HasFault text fault → (tokens : List Lexeme) → HasTokens text tokens → ⊥
no_tokens text fault is tokens has = no_fault text tokens has fault is

pub no_other_fault : (text : List ℕ) (found : LexErr) → HasFault text found → (fault : LexErr) → HasFault text fault → found ≡ fault
no_other_fault text found is fault has = let same : Err found ≡ Err fault = one_text text (Err found) (Err fault) is has in cc

some_open : (o : Option Conditional) (c : Conditional) (p : Option Conditional) → p ≡ elim o [ Some first ↦ Some first | None ↦ Some c ] → p ≡ None → ⊥
some_open (Some first) c p is none = cc
some_open None c p is none = cc

-- no conditional is open where none was opened first
pub none_open : (stack : List Conditional) → outermost stack ≡ None → stack ≡ []
none_open [] e = refl
none_open (inner ∷ outer) e = absurd (some_open (outermost outer) inner (outermost (inner ∷ outer)) refl e)

-- what the clauses say of a refusal
pub refused_tokens : (text : List ℕ) (found : LexErr) → UnlessNoMemory found (HasFault text found) → (tokens : List Lexeme) → HasTokens text tokens → UnlessNoMemory found ⊥
refused_tokens text found is tokens has = unless_map found (HasFault text found) ⊥ (λ h. no_tokens text found h tokens has) is

pub refused_fault : (text : List ℕ) (found : LexErr) → UnlessNoMemory found (HasFault text found) → (fault : LexErr) → HasFault text fault → UnlessNoMemory found (found ≡ fault)
refused_fault text found is fault has = unless_map found (HasFault text found) (found ≡ fault) (λ h. no_other_fault text found h fault has) is

pub read_fault : (text : List ℕ) (found : LexErr) → length text ≤ 16777216 → UnlessNoMemory found (ReadsText text (Err found)) → UnlessNoMemory found (HasFault text found)
read_fault text found short reads = unless_map found (ReadsText text (Err found)) (HasFault text found) (λ h. is_faulty short h) reads
