use Rattle.std.proofs.Common.{ℕ, ◌+◌, ◌<◌, ◌∙◌, refl, ap, sym, subst, false, get_or, arith}
use Rattle.std.proofs.lemmas.Grind.{common_steps}
use Rattle.card_counter.specs.Places.{starts}
use Rattle.gate_base.specs.Nodes.{sources_in}
use Rattle.unroller.specs.Fields.{unrolling_of}
use Rattle.unroller.specs.Limits.{IsRefused, unroll_err}
use Rattle.unroller.specs.Reads.{AreKept}
use Rattle.unroller.specs.Unrolls.{is_grouped, traces_unrolled, unrolled_of, variables_of}
use Rattle.unroller.proofs.Whole.{base-unrolled, sources-unrolled, kept-unrolled, unrolled-is, refused-unrolled}
use Rattle.unroller.proofs.unrolling.unroll.Goals as goal

pub into_unrolled-requires-clause-kept : goal.into_unrolled-requires-clause-kept
into_unrolled-requires-clause-kept c =
    let count = c.in-Some.ensures.0 ∙ ap (λ n. n + starts c.args.k (n + 1)) c.len.ensures in
    let whole = unrolled-is c.args.circuit.now c.args.traces.now c.args.groups.now c.args.k c.in-Some.before
    (λ p. get_or c.in_ok-grouped.field-0 p false) (unrolling_of c.traces.new.self) (unrolling_of c.in_ok-work.work)
    c.in_ok-traces.ensures.ok c.in_ok-work.ensures.form (λ p. c.in_ok-grouped.ensures p ∙ ap (λ gs. is_grouped gs p) c.as_slice.ensures) count in
    subst AreKept (sym whole) (kept-unrolled c.args.circuit.now c.args.traces.now c.args.groups.now c.args.k c.requires)

pub into_unrolled-requires-clause-some : goal.into_unrolled-requires-clause-some
into_unrolled-requires-clause-some c =
    let count = c.in-Some.ensures.0 ∙ ap (λ n. n + starts c.args.k (n + 1)) c.len.ensures in
    let whole = unrolled-is c.args.circuit.now c.args.traces.now c.args.groups.now c.args.k c.in-Some.before
    (λ p. get_or c.in_ok-grouped.field-0 p false) (unrolling_of c.traces.new.self) (unrolling_of c.in_ok-work.work)
    c.in_ok-traces.ensures.ok c.in_ok-work.ensures.form (λ p. c.in_ok-grouped.ensures p ∙ ap (λ gs. is_grouped gs p) c.as_slice.ensures) count in
    omega (arith, ap (λ u. u.base) whole, base-unrolled c.args.circuit.now c.args.traces.now c.args.groups.now c.args.k)

pub into_unrolled-requires-clause-room : goal.into_unrolled-requires-clause-room
into_unrolled-requires-clause-room c =
    let count = c.in-Some.ensures.0 ∙ ap (λ n. n + starts c.args.k (n + 1)) c.len.ensures in
    let whole = unrolled-is c.args.circuit.now c.args.traces.now c.args.groups.now c.args.k c.in-Some.before
    (λ p. get_or c.in_ok-grouped.field-0 p false) (unrolling_of c.traces.new.self) (unrolling_of c.in_ok-work.work)
    c.in_ok-traces.ensures.ok c.in_ok-work.ensures.form (λ p. c.in_ok-grouped.ensures p ∙ ap (λ gs. is_grouped gs p) c.as_slice.ensures) count in
    omega (
      arith,
      ap (λ u. u.base) whole,
      base-unrolled c.args.circuit.now c.args.traces.now c.args.groups.now c.args.k,
      count,
      c.in-Some.ensures.1,
      c.in_ok-traces.ensures.limit,
      c.in_ok-work.ensures.limit,
    )

pub into_unrolled-requires-clause-definitions : goal.into_unrolled-requires-clause-definitions
into_unrolled-requires-clause-definitions c =
    let count = c.in-Some.ensures.0 ∙ ap (λ n. n + starts c.args.k (n + 1)) c.len.ensures in
    let whole = unrolled-is c.args.circuit.now c.args.traces.now c.args.groups.now c.args.k c.in-Some.before
    (λ p. get_or c.in_ok-grouped.field-0 p false) (unrolling_of c.traces.new.self) (unrolling_of c.in_ok-work.work)
    c.in_ok-traces.ensures.ok c.in_ok-work.ensures.form (λ p. c.in_ok-grouped.ensures p ∙ ap (λ gs. is_grouped gs p) c.as_slice.ensures) count in
    ap (λ u. sources_in u.definitions) whole ∙ sources-unrolled c.args.circuit.now c.args.traces.now c.args.groups.now c.args.k

pub returns-clause-ok : goal.returns-clause-ok
returns-clause-ok c =
    let count = c.in-Some.ensures.0 ∙ ap (λ n. n + starts c.args.k (n + 1)) c.len.ensures in
    c.into_unrolled.ensures
    ∙ unrolled-is c.args.circuit.now c.args.traces.now c.args.groups.now c.args.k c.in-Some.before
    (λ p. get_or c.in_ok-grouped.field-0 p false) (unrolling_of c.traces.new.self) (unrolling_of c.in_ok-work.work)
    c.in_ok-traces.ensures.ok c.in_ok-work.ensures.form (λ p. c.in_ok-grouped.ensures p ∙ ap (λ gs. is_grouped gs p) c.as_slice.ensures) count

pub returns-clause-base : goal.returns-clause-base
returns-clause-base c =
    let count = c.in-Some.ensures.0 ∙ ap (λ n. n + starts c.args.k (n + 1)) c.len.ensures in
    let whole = unrolled-is c.args.circuit.now c.args.traces.now c.args.groups.now c.args.k c.in-Some.before
    (λ p. get_or c.in_ok-grouped.field-0 p false) (unrolling_of c.traces.new.self) (unrolling_of c.in_ok-work.work)
    c.in_ok-traces.ensures.ok c.in_ok-work.ensures.form (λ p. c.in_ok-grouped.ensures p ∙ ap (λ gs. is_grouped gs p) c.as_slice.ensures) count in
    ap (λ u. u.base) c.into_unrolled.ensures ∙ ap (λ u. u.base) whole
    ∙ base-unrolled c.args.circuit.now c.args.traces.now c.args.groups.now c.args.k

pub returns-in_err-traces-clause-err : goal.returns-in_err-traces-clause-err
returns-in_err-traces-clause-err c =
    let count = c.in-Some.ensures.0 ∙ ap (λ n. n + starts c.args.k (n + 1)) c.len.ensures in
    let u = unrolling_of c.in_ok-work.work in
    let grouped = λ (p : ℕ). get_or c.in_ok-grouped.field-0 p false in
    let w = traces_unrolled c.args.circuit.now grouped u c.args.traces.now in
    let whole = unrolled-is c.args.circuit.now c.args.traces.now c.args.groups.now c.args.k c.in-Some.before grouped w u
    refl c.in_ok-work.ensures.form (λ p. c.in_ok-grouped.ensures p ∙ ap (λ gs. is_grouped gs p) c.as_slice.ensures) count in
    let more : IsRefused (unroll_err c.in_err-traces.field-0.0)
    (4000000 < variables_of (unrolled_of c.args.circuit.now c.args.traces.now c.args.groups.now c.args.k)) =
    refused-unrolled c.args.circuit.now c.args.traces.now c.args.groups.now c.args.k c.in_err-traces.field-0.0 c.in-Some.before
    c.in_ok-work.work.maker.limit w c.in-Some.ensures.1 count c.in_ok-work.ensures.limit whole c.in_err-traces.ensures.err in
    grind (arith, common_steps, more)
