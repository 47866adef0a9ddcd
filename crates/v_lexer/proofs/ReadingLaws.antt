-- Reading a text piece by piece, as far as it has come.
use Rattle.std.proofs.Common.{cond, take-append-drop, length-append, ◌≡◌, ℕ, suc, ◌+◌, ◌≤◌, Bool, false, List, [], ◌∷◌, ◌++◌, length, take, drop, refl, sym, ◌∙◌, ap, subst, arith, Result, Ok, Err, count_by}
use Rattle.std.specs.Prelude.{nat_eq}
use Rattle.v_lexer.specs.declared.types.refusal.LexErr.{LexErr}
use Rattle.v_lexer.specs.declared.types.refusal.LexErr.TheVariants.{BadByte, OpenComment, BadNumber, UnknownValue, WideNumber, Directive, OpenIf, MacroDepth, TooLong, NoMemory}
use Rattle.v_lexer.specs.declared.pieces.Piece.{Piece}
use Rattle.v_lexer.specs.declared.position.Position.{Position}
use Rattle.v_lexer.specs.declared.position.Position.TheVariants.{Text, Macro}
use Rattle.v_lexer.specs.declared.state.State.{State}
use Rattle.v_lexer.specs.Conditionals.{is_skipping}
use Rattle.v_lexer.specs.Longest.{HasFront}
use Rattle.v_lexer.specs.Pieces.{kind_in, IsPiece}
use Rattle.v_lexer.specs.Acts.{Step, goes, stops, expands, does, takes, passes, past, inside}
use Rattle.v_lexer.specs.Tokens.{Turn, Reads, at_end, at_fault, behind_piece, within_macro, behind_macro}
use Rattle.v_lexer.specs.Outcomes.{UnlessNoMemory, Gives, Becomes, Turns, ReadsTo, IsWithin}
use Rattle.std.proofs.lemmas.List.Sums.{count_by-le-length}
use Rattle.v_lexer.proofs.Fronts.{first_piece}

-- a fact of a refusal carries another
pub unless_map : (fault : LexErr) (P Q : Type 0) → (P → Q) → UnlessNoMemory fault P → UnlessNoMemory fault Q
unless_map NoMemory P Q f h = tt
unless_map (BadByte span) P Q f h = f h
unless_map (OpenComment span) P Q f h = f h
unless_map (BadNumber span) P Q f h = f h
unless_map (UnknownValue span) P Q f h = f h
unless_map (WideNumber span) P Q f h = f h
unless_map (Directive span) P Q f h = f h
unless_map (OpenIf span) P Q f h = f h
unless_map (MacroDepth span) P Q f h = f h
unless_map (TooLong span) P Q f h = f h

-- a front that was found is the first piece
pub piece_of : (rest tail piece others : List ℕ) (first size : ℕ) (skipping open_part : Bool) (kind : Piece)
    → rest ≡ first ∷ tail → skipping ≡ open_part → HasFront (kind_in skipping) (first ∷ tail) kind size
    → piece ≡ take size rest → others ≡ drop size rest
    → IsPiece open_part kind piece others
piece_of rest tail piece others first size skipping open_part kind e skips front pieces behind =
    let found : IsPiece skipping kind (take size (first ∷ tail)) (drop size (first ∷ tail)) = first_piece skipping (first ∷ tail) kind size front.found in
    subst (λ b. IsPiece b kind piece others) skips
    (subst (λ l. IsPiece skipping kind l others) (sym (pieces ∙ ap (take size) e))
    (subst (λ l. IsPiece skipping kind (take size (first ∷ tail)) l) (sym (behind ∙ ap (drop size) e)) found))

pub joins_of : (rest piece others : List ℕ) (size : ℕ) → piece ≡ take size rest → others ≡ drop size rest → rest ≡ piece ++ others
joins_of rest piece others size pieces behind =
    sym (ap (λ l. l ++ others) pieces ∙ ap (λ l. take size rest ++ l) behind ∙ take-append-drop size rest)

-- and a turn of the reading
pub turn_of : (left : ℕ) (s : State) (place : Position) (rest piece others : List ℕ) (kind : Piece)
    → rest ≡ piece ++ others → IsPiece (is_skipping s.conditionals) kind piece others
    → Turn left s place rest piece others (does left s place kind piece)
turn_of left s place rest piece others kind joins is_piece = record { kind = kind; joins = joins; is_piece = is_piece; does_it = refl }

-- a turn that ends in a refusal
pub turn_fails : (step : Step) (left : ℕ) (s : State) (place : Position) (text piece behind : List ℕ) (fault : LexErr)
    → Turn left s place text piece behind step → Becomes left place piece step (Err fault) → Reads left s place text (Err fault)
turn_fails (goes t) left s place text piece behind fault turn is = absurd (cc)
turn_fails (stops found) left s place text piece behind fault turn is =
    let same : found ≡ fault = cc in subst (λ f. Reads left s place text (Err f)) same (at_fault turn)
turn_fails (expands body t) left s place text piece behind fault turn is = within_macro turn is.1 is.2

-- a turn that leaves a state
pub turn_goes : (step : Step) (left : ℕ) (s t : State) (place : Position) (text piece behind : List ℕ) (outcome : Result State LexErr)
    → Turn left s place text piece behind step → Becomes left place piece step (Ok t) → Reads left t (past place piece) behind outcome
    → Reads left s place text outcome
turn_goes (goes u) left s t place text piece behind outcome turn is reads =
    let same : t ≡ u = cc in behind_piece turn (subst (λ v. Reads left v (past place piece) behind outcome) same reads)
turn_goes (stops found) left s t place text piece behind outcome turn is reads = absurd (cc)
turn_goes (expands body u) left s t place text piece behind outcome turn is reads = behind_macro turn is.1 is.2 reads

-- reading from the one place on has come to the other
pub record LeadsTo (left : ℕ) (s : State) (place : Position) (text : List ℕ) (t : State) (here : Position) (rest : List ℕ) : Type 0 where
  pub reads : (outcome : Result State LexErr) → Reads left t here rest outcome → Reads left s place text outcome
  pub within : IsWithin here (length rest)

pub leads_first : (left : ℕ) (s : State) (place : Position) (text : List ℕ) → IsWithin place (length text) → LeadsTo left s place text s place text
leads_first left s place text within = record { reads = λ outcome h. h; within = within }

newlines_fit : (piece : List ℕ) → count_by (λ byte. nat_eq byte 10) piece ≤ length piece
newlines_fit piece = count_by-le-length (λ byte. nat_eq byte 10) piece

within_past : (place : Position) (text piece behind : List ℕ) → text ≡ piece ++ behind → IsWithin place (length text) → IsWithin (past place piece) (length behind)
within_past (Text from line fresh) text piece behind e within =
    let sizes : length text ≡ length piece + length behind = ap length e ∙ length-append piece behind in
    let lines : count_by (λ byte. nat_eq byte 10) piece ≤ length piece = newlines_fit piece in
    (omega (arith, within.0), omega (arith, within.1))
within_past (Macro span line) text piece behind e within = tt

pub within_piece : (place : Position) (text piece behind : List ℕ) → text ≡ piece ++ behind → IsWithin place (length text) → IsWithin place (length piece)
within_piece (Text from line fresh) text piece behind e within =
    let sizes : length text ≡ length piece + length behind = ap length e ∙ length-append piece behind in
    (omega (arith, within.0), within.1)
within_piece (Macro span line) text piece behind e within = tt

pub leads_on : (left : ℕ) (s t u : State) (place here : Position) (text rest piece behind : List ℕ) (step : Step)
    → LeadsTo left s place text t here rest → Turn left t here rest piece behind step → Becomes left here piece step (Ok u)
    → LeadsTo left s place text u (past here piece) behind
leads_on left s t u place here text rest piece behind step before turn is = record {
  reads = λ outcome h. before.reads outcome (turn_goes step left t u here rest piece behind outcome turn is h);
  within = within_past here rest piece behind turn.joins before.within;
}

pub leads_out : (left : ℕ) (s t : State) (place here : Position) (text rest piece behind : List ℕ) (step : Step) (fault : LexErr)
    → LeadsTo left s place text t here rest → Turn left t here rest piece behind step → UnlessNoMemory fault (Becomes left here piece step (Err fault))
    → UnlessNoMemory fault (Reads left s place text (Err fault))
leads_out left s t place here text rest piece behind step fault before turn is =
    unless_map fault (Becomes left here piece step (Err fault)) (Reads left s place text (Err fault))
    (λ h. before.reads (Err fault) (turn_fails step left t here rest piece behind fault turn h)) is

pub leads_end : (left : ℕ) (s t : State) (place here : Position) (text rest : List ℕ) → LeadsTo left s place text t here rest → rest ≡ [] → Reads left s place text (Ok t)
leads_end left s t place here text rest before e = before.reads (Ok t) (subst (λ l. Reads left t here l (Ok t)) (sym e) at_end)

-- reading a macro's text is what becomes of the step
pub expanded : (left less : ℕ) (t new : State) (place : Position) (piece body : List ℕ) (done : Result (Unit {0}) LexErr)
    → left ≡ suc less → ReadsTo less t (inside place piece) body done new → Turns left place piece (expands body t) done new
expanded left less t new place piece body (Ok done) deeper reads = (less, deeper, reads)
expanded left less t new place piece body (Err fault) deeper reads =
    unless_map fault (Reads less t (inside place piece) body (Err fault)) ((m : ℕ) × (left ≡ suc m) × Reads m t (inside place piece) body (Err fault))
    (λ h. (less, deeper, h)) reads

-- a call that gives a step that reads no macro takes its turn
pub given : (step : Step) (left : ℕ) (place : Position) (piece : List ℕ) (done : Result (Unit {0}) LexErr) (new : State)
    → Gives step done new → Turns left place piece step done new
given (goes t) left place piece (Ok done) new is = let same : t ≡ new = cc in ap (λ v. Ok v) (sym same)
given (stops fault) left place piece (Ok done) new is = absurd (cc)
given (expands body t) left place piece (Ok done) new is = absurd (cc)
given (goes t) left place piece (Err found) new is = unless_map found (goes t ≡ stops found) (Becomes left place piece (goes t) (Err found)) (λ h. absurd (cc)) is
given (stops fault) left place piece (Err found) new is =
    unless_map found (stops fault ≡ stops found) (Becomes left place piece (stops fault) (Err found)) (λ h. let same : fault ≡ found = cc in ap (λ f. Err f) (sym same)) is
given (expands body t) left place piece (Err found) new is =
    unless_map found (expands body t ≡ stops found) (Becomes left place piece (expands body t) (Err found)) (λ h. absurd (cc)) is

-- a piece in a part that is taken takes its turn
pub taken_turn : (left : ℕ) (s : State) (place : Position) (kind : Piece) (piece : List ℕ) (done : Result (Unit {0}) LexErr) (new : State)
    → is_skipping s.conditionals ≡ false → Gives (takes left s place kind piece) done new
    → Turns left place piece (does left s place kind piece) done new
taken_turn left s place kind piece done new off is =
    subst (λ step. Turns left place piece step done new) (sym (ap (λ b. cond b (passes s place kind piece) (takes left s place kind piece)) off))
    (given (takes left s place kind piece) left place piece done new is)

-- a refusal leaves the reading
pub fault_exit : (left : ℕ) (s new : State) (place : Position) (text : List ℕ) (fault : LexErr) (done : Result (Unit {0}) LexErr)
    → done ≡ Err fault → UnlessNoMemory fault (Reads left s place text (Err fault)) → ReadsTo left s place text done new
fault_exit left s new place text fault done is reads = subst (λ d. ReadsTo left s place text d new) (sym is) reads
