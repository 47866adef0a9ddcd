use Rattle.std.proofs.Common.{ℕ, ◌≡◌, true, drop, arith, rules, sym, subst, Result, Ok, Err, List}
use Rattle.std.specs.Prelude.{MatchResult, IfErr, IfOk}
use Rattle.v_lexer.specs.declared.types.refusal.LexErr.{LexErr}
use Rattle.v_lexer.specs.declared.types.refusal.LexErr.TheVariants.{TooLong, OpenIf}
use Rattle.v_lexer.specs.declared.position.Position.TheVariants.{Text}
use Rattle.v_lexer.specs.declared.state.State.{State}
use Rattle.v_lexer.specs.Lexeme.{Lexeme}
use Rattle.v_lexer.specs.Outcomes.{UnlessNoMemory}
use Rattle.v_lexer.specs.Tokens.{Reads, ReadsText, HasFault, HasTokens, mark_size, start, is_long, is_open, is_whole}
use Rattle.v_lexer.proofs.Unique.{no_tokens, no_fault, no_other_tokens, no_other_fault, none_open, refused_tokens, refused_fault, read_fault}
use Rattle.v_lexer.proofs.ReadingLaws.{unless_map}
use Rattle.v_lexer.proofs.reader.tokens.Goals as goal

-- what is read from the first piece on is read of the text
begun : (text rest : List ℕ) (s : State) (size : ℕ) (outcome : Result State LexErr) → s ≡ start → size ≡ mark_size text → rest ≡ drop size text
    → Reads 64 s (Text size 1 true) rest outcome → ReadsText text outcome
begun text rest s size outcome fresh counted behind reads =
    subst (λ n. Reads 64 start (Text n 1 true) (drop n text) outcome) counted
    (subst (λ l. Reads 64 start (Text size 1 true) l outcome) behind (subst (λ t. Reads 64 t (Text size 1 true) rest outcome) fresh reads))

refused_clauses : (text : List ℕ) (found : LexErr) (r : Result (List Lexeme) LexErr) → r ≡ Err found → UnlessNoMemory found (HasFault text found)
    → (IfOk r (HasTokens text)) × ((tokens : List Lexeme) → HasTokens text tokens → MatchResult r (λ found. found ≡ tokens) (λ fault. UnlessNoMemory fault ⊥))
    × (IfErr r (λ fault. UnlessNoMemory fault (HasFault text fault)))
    × ((fault : LexErr) → HasFault text fault → MatchResult r (λ tokens. ⊥) (λ found. UnlessNoMemory found (found ≡ fault)))
refused_clauses text found (Ok tokens) e is = absurd (cc)
refused_clauses text found (Err other) e is =
    let same : found ≡ other = cc in
    let here : UnlessNoMemory other (HasFault text other) = subst (λ f. UnlessNoMemory f (HasFault text f)) same is in
    (tt, refused_tokens text other here, here, refused_fault text other here)

pub returns-then-text-gt16777216 : goal.returns-then-text-gt16777216
returns-then-text-gt16777216 c =
    let fault : HasFault c.args.text.now (TooLong c.nowhere.result) =
    subst (λ s. HasFault c.args.text.now (TooLong s)) (sym c.nowhere.ensures) (is_long c.if-text-gt16777216.true) in
    record {
      read = tt;
      whole = no_tokens c.args.text.now (TooLong c.nowhere.result) fault;
      refused = fault;
      first = no_other_fault c.args.text.now (TooLong c.nowhere.result) fault;
    }

pub returns-in_err-read : goal.returns-in_err-read
returns-in_err-read c =
    let found : LexErr = c.in_err-read.field-0.0 in
    let reads : UnlessNoMemory found (ReadsText c.args.text.now (Err found)) =
    unless_map found (Reads 64 c.new-state.result (Text c.mark_size-size.result 1 true) c.behind.result.now (Err found)) (ReadsText c.args.text.now (Err found))
    (begun c.args.text.now c.behind.result.now c.new-state.result c.mark_size-size.result (Err found) c.new-state.ensures c.mark_size-size.ensures.size c.behind.ensures)
    c.in_err-read.ensures in
    let fault : UnlessNoMemory found (HasFault c.args.text.now found) = read_fault c.args.text.now found (omega arith) reads in
    let clauses = refused_clauses c.args.text.now found c.from_residual.result (search rules) fault in
    record { read = clauses.0; whole = clauses.1; refused = clauses.2; first = clauses.3 }

pub returns-in-Some : goal.returns-in-Some
returns-in-Some c =
    let reads : ReadsText c.args.text.now (Ok c.read.new.self) =
    begun c.args.text.now c.behind.result.now c.new-state.result c.mark_size-size.result (Ok c.read.new.self) c.new-state.ensures c.mark_size-size.ensures.size
    c.behind.ensures c.in_ok-read.ensures in
    let fault : HasFault c.args.text.now (OpenIf c.in-Some.first.opener) = is_open (omega arith) reads (sym c.in-Some.ensures) in
    record {
      read = tt;
      whole = no_tokens c.args.text.now (OpenIf c.in-Some.first.opener) fault;
      refused = fault;
      first = no_other_fault c.args.text.now (OpenIf c.in-Some.first.opener) fault;
    }

pub returns-in-None : goal.returns-in-None
returns-in-None c =
    let reads : ReadsText c.args.text.now (Ok c.read.new.self) =
    begun c.args.text.now c.behind.result.now c.new-state.result c.mark_size-size.result (Ok c.read.new.self) c.new-state.ensures c.mark_size-size.ensures.size
    c.behind.ensures c.in_ok-read.ensures in
    let found : HasTokens c.args.text.now c.read.new.self.tokens =
    is_whole (omega arith) reads (none_open c.read.new.self.conditionals (sym c.in-None.ensures)) in
    record {
      read = found;
      whole = no_other_tokens c.args.text.now c.read.new.self.tokens found;
      refused = tt;
      first = no_fault c.args.text.now c.read.new.self.tokens found;
    }
