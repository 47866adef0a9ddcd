-- That what the pass up gives of concatenations, replications and logarithms is what their definitions say, where it is so of the
-- operands.
use Rattle.std.proofs.Common.{◌≡◌, ℕ, ◌+◌, ◌*◌, ◌%◌, ◌^◌, ◌<◌, true, false, ◌&&◌, List, [], ◌∷◌, map, Option, None, refl, ap, sym, subst, ◌∙◌, lit≤}
use Rattle.std.specs.Prelude.{if◌then◌else◌, not, ◌||◌, int_lt, pos}
use Rattle.std.specs.Option.{option_or}
use Rattle.std.proofs.lemmas.Bool.{and_parts, not-false}
use Rattle.std.proofs.lemmas.List.Sums.{sum_by-cons}
use Rattle.std.proofs.lemmas.Nat.{pow_pos}
use Rattle.std.proofs.Math.Nat.{mod-lt}
use Rattle.loc_base.specs.declared.span.Span.{Span}
use Rattle.loc_base.specs.Word.{extended}
use Rattle.v_syntax.specs.declared.operator.SystemFunction.TheVariants as function
use Rattle.design_core.specs.declared.expression.Typed.{Typed}
use Rattle.design_core.specs.declared.expression.Node.TheVariants as node
use Rattle.design_core.specs.Constant.{zeros}
use Rattle.design_core.specs.Operator.{repeated}
use Rattle.v_sizes.specs.declared.error.WidthErr.{WidthErr}
use Rattle.v_sizes.specs.declared.error.WidthErr.TheVariants as fault
use Rattle.v_sizes.specs.Literal.{limited}
use Rattle.v_sizes.specs.Operations.{ceiling_of_logarithm}
use Rattle.v_sizes.specs.Refusals.{when, is_bad_width, first_of, by_own, concat_fault, repeat_fault, called_fault}
use Rattle.v_sizes.specs.Sizing.{Sizing, own, known, times_of, joined_width, joined_value, are_constant, joined, replicated, called}
use Rattle.v_sizes.specs.Sized.{sized, constant, with_sign, with_width, carried, folded}
use Rattle.v_sizes.proofs.Accepted.{or-none, first_of-none, when-none}
use Rattle.v_sizes.proofs.Names.{limits}
use Rattle.v_selects.specs.declared.closed.Closed.{Closed}
use Rattle.v_widths.specs.declared.measured.Measured.{Measured}
use Rattle.v_widths.specs.Closing.{alone}
use Rattle.v_widths.specs.Measuring.{number_of}
use Rattle.v_widths.specs.Named.{faults_in, typed_in, joined_measured, repeated_measured, logarithm_measured}
use Rattle.v_selects.specs.Taken.{taken}
use Rattle.v_widths.proofs.Agrees.{IsClosed, IsMeasured, IsTaken, own-law, alone-closed, taken-as}
use Rattle.v_widths.proofs.BinaryLaws.{Faults, Shapes}
use Rattle.v_sizes.proofs.Expressions.{logarithm-low}

-- finished parts, as their sizes, their leftmost fault and their sized expressions say
pub record AllFinished (es : List Sizing) (refused : Option WidthErr) (ts : List Typed) (cs : List Closed) : Type 0 where
  pub faults : faults_in cs ≡ refused
  pub width : joined_width (map taken cs) ≡ joined_width es
  pub constant : are_constant (map taken cs) ≡ are_constant es
  pub value : are_constant es ≡ true → (before : ℕ) → joined_value before (map taken cs) zeros ≡ joined_value before es zeros
  pub made : refused ≡ None → map typed_in cs ≡ ts

pub none-finished : AllFinished [] None [] []
none-finished = record { faults = refl; width = refl; constant = refl; value = λ holds before. refl; made = λ accepted. refl }

pub more-finished : {es : List Sizing} {refused : Option WidthErr} {ts : List Typed} {cs : List Closed} (e : Sizing) (f : Option WidthErr) (t : Typed) (c : Closed)
    → IsTaken e c → IsClosed e f t e.width e.signed c → AllFinished es refused ts cs → AllFinished (e ∷ es) (option_or f refused) (t ∷ ts) (c ∷ cs)
more-finished {es} {refused} {ts} {cs} e f t c taken_is closed_is rest =
    record {
      faults = ap (λ x. option_or x (faults_in cs)) closed_is.fault ∙ ap (option_or f) rest.faults;
      width = sum_by-cons (λ part. part.width) (taken c) (map taken cs) ∙ ap (λ w. w + joined_width (map taken cs)) taken_is.width
          ∙ ap (λ w. e.width + w) rest.width ∙ sym (sum_by-cons (λ part. part.width) e es);
      constant = ap (λ b. b && are_constant (map taken cs)) taken_is.constant ∙ ap (λ b. e.constant && b) rest.constant;
      value = λ holds before.
          let both = and_parts e.constant (are_constant es) holds in
          ap (λ w. joined_value (before * 2 ^ w + number_of c) (map taken cs) zeros) taken_is.width
          ∙ ap (λ n. joined_value (before * 2 ^ e.width + n) (map taken cs) zeros) (taken_is.number both.0)
          ∙ rest.value both.1 (before * 2 ^ e.width + own e zeros);
      made = λ accepted.
          let both = or-none f refused accepted in
          ap (λ x. x ∷ map typed_in cs) (closed_is.made both.0) ∙ ap (λ xs. t ∷ xs) (rest.made both.1);
    }

pub concat-law : (span : Span) (es : List Sizing) (refused : Option WidthErr) (ts : List Typed) (cs : List Closed) → AllFinished es refused ts cs
    → IsMeasured (joined es) (λ size signed. option_or refused (concat_fault span es))
    (λ size signed. folded (joined es) size signed (carried size signed (joined es).width (node.Join ts))) (joined_measured span cs)
concat-law span es refused ts cs all =
    let width : limited (joined_width (map taken cs)) ≡ limited (joined_width es) = ap limited all.width in
    let number : are_constant es ≡ true
    → joined_value 0 (map taken cs) zeros % 2 ^ limited (joined_width (map taken cs)) ≡ joined_value 0 es zeros % 2 ^ limited (joined_width es) =
    λ holds. ap (λ w. joined_value 0 (map taken cs) zeros % 2 ^ w) width ∙ ap (λ n. n % 2 ^ limited (joined_width es)) (all.value holds 0) in
    let wrong : concat_fault span (map taken cs) ≡ concat_fault span es = ap (λ w. when (is_bad_width w) (fault.Range span) None) all.width in
    own-law (joined es) (option_or refused (concat_fault span es)) (option_or (faults_in cs) (concat_fault span (map taken cs)))
    (λ size signed. folded (joined es) size signed (carried size signed (joined es).width (node.Join ts)))
    (limited (joined_width (map taken cs))) false (are_constant (map taken cs)) (joined_value 0 (map taken cs) zeros % 2 ^ limited (joined_width (map taken cs)))
    (node.Join (map typed_in cs)) (node.Join ts)
    width refl all.constant (limits (joined_width (map taken cs)))
    (ap (λ f. option_or f (concat_fault span (map taken cs))) all.faults ∙ ap (option_or refused) wrong)
    (λ holds. mod-lt (joined_value 0 (map taken cs) zeros) (pow_pos (limited (joined_width (map taken cs)))))
    (λ size signed holds.
    ap (extended signed (limited (joined_width es)) size) (sym (number holds))
    ∙ ap (λ w. extended signed w size (joined_value 0 (map taken cs) zeros % 2 ^ limited (joined_width (map taken cs)))) (sym width))
    (λ size signed accepted. ap (λ w. folded (joined es) size signed (carried size signed w (node.Join ts))) (sym width))
    (λ accepted fails. ap node.Join (all.made (sym all.faults ∙ (or-none (faults_in cs) (concat_fault span (map taken cs)) accepted).0)))

pub repeat-law : (span : Span) (C : Sizing) (f : Option WidthErr) (t : Typed) (k : Closed) (es : List Sizing) (refused : Option WidthErr) (ts : List Typed) (cs : List Closed)
    → IsTaken C k → IsClosed C f t C.width C.signed k → AllFinished es refused ts cs
    → IsMeasured (replicated C es) (λ size signed. first_of f refused (repeat_fault span C es))
    (λ size signed. folded (replicated C es) size signed
    (carried size signed (replicated C es).width (node.Repeat (times_of (known C)) (sized (joined_width es) false (node.Join ts)))))
    (repeated_measured span k cs)
repeat-law span C f t k es refused ts cs taken_is closed_is all =
    let times : times_of (known (taken k)) ≡ times_of (known C) = ap times_of taken_is.same_known in
    let total : times_of (known (taken k)) * joined_width (map taken cs) ≡ times_of (known C) * joined_width es =
    ap (λ n. n * joined_width (map taken cs)) times ∙ ap (λ w. times_of (known C) * w) all.width in
    let width : limited (times_of (known (taken k)) * joined_width (map taken cs)) ≡ limited (times_of (known C) * joined_width es) = ap limited total in
    let number : are_constant es ≡ true
    → repeated (times_of (known (taken k))) (joined_width (map taken cs)) (joined_value 0 (map taken cs) zeros) % 2 ^ limited (times_of (known (taken k)) * joined_width (map taken cs))
    ≡ repeated (times_of (known C)) (joined_width es) (joined_value 0 es zeros) % 2 ^ limited (times_of (known C) * joined_width es) =
    λ holds.
    ap (λ w. repeated (times_of (known (taken k))) (joined_width (map taken cs)) (joined_value 0 (map taken cs) zeros) % 2 ^ w) width
    ∙ ap (λ n. repeated n (joined_width (map taken cs)) (joined_value 0 (map taken cs) zeros) % 2 ^ limited (times_of (known C) * joined_width es)) times
    ∙ ap (λ w. repeated (times_of (known C)) w (joined_value 0 (map taken cs) zeros) % 2 ^ limited (times_of (known C) * joined_width es)) all.width
    ∙ ap (λ v. repeated (times_of (known C)) (joined_width es) v % 2 ^ limited (times_of (known C) * joined_width es)) (all.value holds 0) in
    let wrong : repeat_fault span (taken k) (map taken cs) ≡ repeat_fault span C es =
    ap (λ b. when (not b) (fault.NotConstant span) (when (not (int_lt (pos 0) (known (taken k))) || is_bad_width (times_of (known (taken k)) * joined_width (map taken cs))) (fault.Range span) None)) taken_is.constant
    ∙ ap (λ n. when (not C.constant) (fault.NotConstant span) (when (not (int_lt (pos 0) n) || is_bad_width (times_of (known (taken k)) * joined_width (map taken cs))) (fault.Range span) None)) taken_is.same_known
    ∙ ap (λ w. when (not C.constant) (fault.NotConstant span) (when (not (int_lt (pos 0) (known C)) || is_bad_width w) (fault.Range span) None)) total in
    own-law (replicated C es) (first_of f refused (repeat_fault span C es)) (first_of k.fault (faults_in cs) (repeat_fault span (taken k) (map taken cs)))
    (λ size signed. folded (replicated C es) size signed
    (carried size signed (replicated C es).width (node.Repeat (times_of (known C)) (sized (joined_width es) false (node.Join ts)))))
    (limited (times_of (known (taken k)) * joined_width (map taken cs))) false (are_constant (map taken cs))
    (repeated (times_of (known (taken k))) (joined_width (map taken cs)) (joined_value 0 (map taken cs) zeros) % 2 ^ limited (times_of (known (taken k)) * joined_width (map taken cs)))
    (node.Repeat (times_of (known (taken k))) (sized (joined_width (map taken cs)) false (node.Join (map typed_in cs))))
    (node.Repeat (times_of (known C)) (sized (joined_width es) false (node.Join ts)))
    width refl all.constant (limits (times_of (known (taken k)) * joined_width (map taken cs)))
    (ap (λ x. first_of x (faults_in cs) (repeat_fault span (taken k) (map taken cs))) closed_is.fault
    ∙ ap (λ x. first_of f x (repeat_fault span (taken k) (map taken cs))) all.faults ∙ ap (first_of f refused) wrong)
    (λ holds. mod-lt (repeated (times_of (known (taken k))) (joined_width (map taken cs)) (joined_value 0 (map taken cs) zeros)) (pow_pos (limited (times_of (known (taken k)) * joined_width (map taken cs)))))
    (λ size signed holds.
    ap (extended signed (limited (times_of (known C) * joined_width es)) size) (sym (number holds))
    ∙ ap (λ w. extended signed w size (repeated (times_of (known (taken k))) (joined_width (map taken cs)) (joined_value 0 (map taken cs) zeros) % 2 ^ limited (times_of (known (taken k)) * joined_width (map taken cs)))) (sym width))
    (λ size signed accepted.
    ap (λ w. folded (replicated C es) size signed (carried size signed w (node.Repeat (times_of (known C)) (sized (joined_width es) false (node.Join ts))))) (sym width))
    (λ accepted fails.
    ap (λ n. node.Repeat n (sized (joined_width (map taken cs)) false (node.Join (map typed_in cs)))) times
    ∙ ap (λ w. node.Repeat (times_of (known C)) (sized w false (node.Join (map typed_in cs)))) all.width
    ∙ ap (λ xs. node.Repeat (times_of (known C)) (sized (joined_width es) false (node.Join xs)))
    (all.made (sym all.faults ∙ (first_of-none k.fault (faults_in cs) (repeat_fault span (taken k) (map taken cs)) accepted).1)))

-- ---- logarithms
pub logarithm-law : (span : Span) (e : Sizing) (faults : Faults) (shapes : Shapes) (m : Measured) → IsMeasured e faults shapes m
    → IsMeasured (called function.Clog2 e) (λ size signed. option_or (by_own e faults) (called_fault span function.Clog2 e))
    (λ size signed. folded (called function.Clog2 e) size signed (with_width size (with_sign signed (shapes e.width e.signed))))
    (logarithm_measured span (alone m))
logarithm-law span e faults shapes m is =
    let c = alone m in
    let closed_is = alone-closed is in
    let taken_is = taken-as is in
    let raw = ceiling_of_logarithm (number_of c) in
    let number : e.constant ≡ true → raw ≡ ceiling_of_logarithm (own e zeros) = λ holds. ap ceiling_of_logarithm (taken_is.number holds) in
    let wrong : called_fault span function.Clog2 (taken c) ≡ called_fault span function.Clog2 e = ap (λ b. when (not b) (fault.NotConstant span) None) taken_is.constant in
    own-law (called function.Clog2 e) (option_or (by_own e faults) (called_fault span function.Clog2 e)) (option_or c.fault (called_fault span function.Clog2 (taken c)))
    (λ size signed. folded (called function.Clog2 e) size signed (with_width size (with_sign signed (shapes e.width e.signed))))
    32 true c.constant raw (node.Whole 0) (node.Whole 0)
    refl refl closed_is.of_constant (record { least = lit≤ tt; most = lit≤ tt })
    (ap (λ f. option_or f (called_fault span function.Clog2 (taken c))) closed_is.fault ∙ ap (option_or (by_own e faults)) wrong)
    (λ holds. subst (λ n. n < 2 ^ 32) (sym (number holds)) (logarithm-low (own e zeros)))
    (λ size signed holds. ap (extended signed 32 size) (sym (number holds)))
    (λ size signed accepted.
    let split = or-none (by_own e faults) (called_fault span function.Clog2 e) accepted in
    let holds = not-false e.constant (when-none (not e.constant) (fault.NotConstant span) None split.1).0 in
    ap (λ b. if b then constant size signed ((called function.Clog2 e).value zeros size signed) else with_width size (with_sign signed (shapes e.width e.signed))) holds
    ∙ sym (ap (λ b. if b then constant size signed ((called function.Clog2 e).value zeros size signed) else carried size signed 32 (node.Whole 0)) holds))
    (λ accepted fails. refl)
