use Rattle.std.proofs.Common.{rules, arith, ◌≡◌, ◌++◌, sym, subst}
use Rattle.v_lexer.specs.Conditionals.{is_skipping}
use Rattle.v_lexer.specs.Pieces.{IsPiece}
use Rattle.v_lexer.specs.Acts.{does}
use Rattle.v_lexer.proofs.ReadingLaws.{LeadsTo, piece_of, joins_of, turn_of, within_piece, leads_on, leads_out, leads_end, taken_turn, fault_exit}
use Rattle.v_lexer.proofs.state.State.+reading.Goals as goal

pub read-turn-requires : goal.read-turn-requires
read-turn-requires t c =
    let joins : c.loop-first.rest.now ≡ c.split_at.result.0.now ++ c.split_at.result.1.now =
    joins_of c.loop-first.rest.now c.split_at.result.0.now c.split_at.result.1.now c.piece_at-kind.result.1 c.split_at.ensures.front c.split_at.ensures.back in
    let is_piece : IsPiece (is_skipping c.loop-first.self.conditionals) c.piece_at-kind.result.0 c.split_at.result.0.now c.split_at.result.1.now =
    piece_of c.loop-first.rest.now c.in-Some.tail.now c.split_at.result.0.now c.split_at.result.1.now c.in-Some.first c.piece_at-kind.result.1
    c.is_skipping.result (is_skipping c.loop-first.self.conditionals) c.piece_at-kind.result.0
    c.in-Some.ensures c.is_skipping.ensures c.piece_at-kind.ensures.front c.split_at.ensures.front c.split_at.ensures.back in (
      search rules,
      (
        is_piece.is_one,
        (
          (omega (arith, c.piece_at-kind.ensures.bytes, c.split_at.ensures.front_len)),
          within_piece c.loop-first.place c.loop-first.rest.now c.split_at.result.0.now c.split_at.result.1.now joins c.loop-first.invariant.within,
        ),
      ),
    )

pub read-returns-in_err-turn : goal.read-returns-in_err-turn
read-returns-in_err-turn t c =
    let joins : c.loop-first.rest.now ≡ c.split_at.result.0.now ++ c.split_at.result.1.now =
    joins_of c.loop-first.rest.now c.split_at.result.0.now c.split_at.result.1.now c.piece_at-kind.result.1 c.split_at.ensures.front c.split_at.ensures.back in
    let is_piece : IsPiece (is_skipping c.loop-first.self.conditionals) c.piece_at-kind.result.0 c.split_at.result.0.now c.split_at.result.1.now =
    piece_of c.loop-first.rest.now c.in-Some.tail.now c.split_at.result.0.now c.split_at.result.1.now c.in-Some.first c.piece_at-kind.result.1
    c.is_skipping.result (is_skipping c.loop-first.self.conditionals) c.piece_at-kind.result.0
    c.in-Some.ensures c.is_skipping.ensures c.piece_at-kind.ensures.front c.split_at.ensures.front c.split_at.ensures.back in
    fault_exit c.args.left c.args.self.now c.turn.new.self c.args.place c.args.text.now c.in_err-turn.field-0.0 c.from_residual.result (search rules)
    (leads_out c.args.left c.args.self.now c.loop-first.self c.args.place c.loop-first.place c.args.text.now c.loop-first.rest.now
    c.split_at.result.0.now c.split_at.result.1.now (does c.args.left c.loop-first.self c.loop-first.place c.piece_at-kind.result.0 c.split_at.result.0.now) c.in_err-turn.field-0.0 c.loop-first.invariant (turn_of c.args.left c.loop-first.self c.loop-first.place c.loop-first.rest.now c.split_at.result.0.now c.split_at.result.1.now c.piece_at-kind.result.0 joins is_piece) c.in_err-turn.ensures)

pub read-loop-first-preserved : goal.read-loop-first-preserved
read-loop-first-preserved t c =
    let joins : c.loop-first.rest.now ≡ c.split_at.result.0.now ++ c.split_at.result.1.now =
    joins_of c.loop-first.rest.now c.split_at.result.0.now c.split_at.result.1.now c.piece_at-kind.result.1 c.split_at.ensures.front c.split_at.ensures.back in
    let is_piece : IsPiece (is_skipping c.loop-first.self.conditionals) c.piece_at-kind.result.0 c.split_at.result.0.now c.split_at.result.1.now =
    piece_of c.loop-first.rest.now c.in-Some.tail.now c.split_at.result.0.now c.split_at.result.1.now c.in-Some.first c.piece_at-kind.result.1
    c.is_skipping.result (is_skipping c.loop-first.self.conditionals) c.piece_at-kind.result.0
    c.in-Some.ensures c.is_skipping.ensures c.piece_at-kind.ensures.front c.split_at.ensures.front c.split_at.ensures.back in
    subst (λ p. LeadsTo c.args.left c.args.self.now c.args.place c.args.text.now c.turn.new.self p c.split_at.result.1.now) (sym c.past-place.ensures)
    (leads_on c.args.left c.args.self.now c.loop-first.self c.turn.new.self c.args.place c.loop-first.place c.args.text.now c.loop-first.rest.now
    c.split_at.result.0.now c.split_at.result.1.now (does c.args.left c.loop-first.self c.loop-first.place c.piece_at-kind.result.0 c.split_at.result.0.now) c.loop-first.invariant (turn_of c.args.left c.loop-first.self c.loop-first.place c.loop-first.rest.now c.split_at.result.0.now c.split_at.result.1.now c.piece_at-kind.result.0 joins is_piece) c.in_ok-turn.ensures)

pub read-returns : goal.read-returns
read-returns t c = leads_end c.args.left c.args.self.now c.loop-first.self c.args.place c.loop-first.place c.args.text.now c.loop-first.rest.now c.loop-first.invariant c.in_default.ensures

pub turn-returns-else-is_use : goal.turn-returns-else-is_use
turn-returns-else-is_use t c =
    taken_turn c.args.left c.args.self.now c.args.place c.args.kind c.args.piece.now c.takes.result c.takes.new.self (cc) (c.takes.ensures c.args.left)
