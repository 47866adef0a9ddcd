-- That parts which are joined one after another are what the definitions say of all of them.
use Rattle.std.proofs.Common.{◌≡◌, ℕ, zero, suc, ◌+◌, ◌*◌, ◌%◌, ◌^◌, ◌<◌, ◌≤◌, Bool, true, false, ◌&&◌, List, [], ◌∷◌, ◌++◌, map, Option, Some, None, refl, ap, sym, subst, ◌∙◌, arith, lit≤}
use Rattle.std.specs.Prelude.{if◌then◌else◌, min, not, ◌||◌, ◌==◌, nat_lt, nat_le, int_lt, ℤ, pos, negsuc, is_some}
use Rattle.std.specs.Option.{option_or}
use Rattle.std.proofs.lemmas.List.Sums.{sum_by-cons}
use Rattle.std.proofs.lemmas.Bool.{leb-true, leb-false, lt-ltb}
use Rattle.std.proofs.lemmas.Nat.{mul-mod_first}
use Rattle.std.proofs.Math.Nat.{mod-mod, add-mod, min-eq_left, le-max_left}
use Rattle.loc_base.specs.declared.span.Span.{Span}
use Rattle.loc_base.proofs.Modulo.{mod_mod_of, shifted_out}
use Rattle.design_core.specs.declared.expression.Typed.{Typed}
use Rattle.design_core.specs.declared.expression.Node.{Node}
use Rattle.design_core.specs.declared.expression.Node.TheVariants as node
use Rattle.design_core.specs.Constant.{zeros}
use Rattle.design_core.specs.Operator.{repeated}
use Rattle.v_sizes.specs.declared.error.WidthErr.{WidthErr}
use Rattle.v_sizes.specs.declared.error.WidthErr.TheVariants as fault
use Rattle.v_sizes.specs.Literal.{limited}
use Rattle.v_sizes.specs.Refusals.{when, is_bad_width, first_of, concat_fault, repeat_fault}
use Rattle.v_sizes.specs.Sized.{sized}
use Rattle.v_sizes.specs.Sizing.{known, times_of, joined_width, joined_value, are_constant}
use Rattle.v_sizes.specs.Word.{word}
use Rattle.v_sizes.proofs.Meant.{Within, limited-within}
use Rattle.v_sizes.proofs.Accepted.{first_of-none, when-none, or_false, good-width}
use Rattle.v_sizes.proofs.Names.{limits}
use Rattle.v_sizes.proofs.SameWord.{word-low}
use Rattle.v_selects.specs.declared.closed.Closed.{Closed}
use Rattle.v_widths.specs.declared.measured.Parts.{Parts}
use Rattle.v_widths.specs.declared.measured.Shape.TheVariants as shape
use Rattle.v_widths.specs.Measuring.{own_measured, number_of}
use Rattle.v_widths.specs.Named.{faults_in, typed_in, joined_measured, repeated_measured}
use Rattle.v_widths.specs.Parts.{behind, no_parts, with_part, with_parts, joined_parts, many, count_fault, repeated_parts}
use Rattle.v_selects.specs.Taken.{taken}
use Rattle.v_sizes.proofs.Expressions.{one-part}

-- the rest of a sum by those of its parts
behind-mod : (a b w n k : ℕ) → a % 2 ^ 128 ≡ b % 2 ^ 128 → n % 2 ^ 128 ≡ k % 2 ^ 128 → behind a w n ≡ (b * 2 ^ w + k) % 2 ^ 128
behind-mod a b w n k same same_number =
    ap (λ x. (x + n % 2 ^ 128) % 2 ^ 128) (sym (mul-mod_first a (2 ^ w) (2 ^ 128)) ∙ ap (λ x. x * 2 ^ w % 2 ^ 128) same ∙ mul-mod_first b (2 ^ w) (2 ^ 128))
    ∙ ap (λ x. (b * 2 ^ w % 2 ^ 128 + x) % 2 ^ 128) same_number ∙ sym (add-mod (b * 2 ^ w) k (2 ^ 128))

number-with : (p : Parts) (cs : List Closed) (before : ℕ) → p.number % 2 ^ 128 ≡ before % 2 ^ 128
    → (with_parts p cs).number % 2 ^ 128 ≡ joined_value before (map taken cs) zeros % 2 ^ 128
number-with p [] before same = same
number-with p (c ∷ cs) before same =
    number-with (with_part p c) cs (before * 2 ^ limited c.typed.width + number_of c)
    (ap (λ n. n % 2 ^ 128) (behind-mod p.number before (limited c.typed.width) (number_of c) (number_of c) same refl)
    ∙ mod-mod (before * 2 ^ limited c.typed.width + number_of c) (2 ^ 128))

pub width-most : (p : Parts) (cs : List Closed) → p.width ≤ 1000 → (with_parts p cs).width ≤ 1000
width-most p [] most = most
width-most p (c ∷ cs) most = width-most (with_part p c) cs (omega arith)

width-with : (p : Parts) (cs : List Closed) → p.width ≤ 1000 → (with_parts p cs).width ≡ min (p.width + joined_width (map taken cs)) 1000
width-with p [] most = omega (arith, most)
width-with p (c ∷ cs) most =
    let next = width-with (with_part p c) cs (omega arith) in
    let sum = sum_by-cons (λ part. part.width) (taken c) (map taken cs) in
    omega (arith, most, next, sum)

constant-with : (p : Parts) (cs : List Closed) → (with_parts p cs).constant ≡ (p.constant && are_constant (map taken cs))
constant-with p [] = by p.constant
  where
    by : (b : Bool) → b ≡ (b && true)
    by true = refl
    by false = refl
constant-with p (c ∷ cs) = constant-with (with_part p c) cs ∙ by p.constant c.constant (are_constant (map taken cs))
  where
    by : (a b d : Bool) → ((a && b) && d) ≡ (a && (b && d))
    by true b d = refl
    by false b d = refl

fault-with : (p : Parts) (cs : List Closed) → (with_parts p cs).fault ≡ option_or p.fault (faults_in cs)
fault-with p [] = by p.fault
  where
    by : (f : Option WidthErr) → f ≡ option_or f None
    by None = refl
    by (Some x) = refl
fault-with p (c ∷ cs) = fault-with (with_part p c) cs ∙ by p.fault c.fault (faults_in cs)
  where
    by : (a b d : Option WidthErr) → option_or (option_or a b) d ≡ option_or a (option_or b d)
    by None b d = refl
    by (Some x) b d = refl

append-none : (ts : List Typed) → ts ≡ (ts ++ [])
append-none [] = refl
append-none (t ∷ ts) = ap (λ x. t ∷ x) (append-none ts)

append-next : (ts : List Typed) (t : Typed) (us : List Typed) → ((ts ++ t ∷ []) ++ us) ≡ (ts ++ t ∷ us)
append-next [] t us = refl
append-next (s ∷ ts) t us = ap (λ x. s ∷ x) (append-next ts t us)

typed-with : (p : Parts) (cs : List Closed) → (with_parts p cs).typed ≡ (p.typed ++ map typed_in cs)
typed-with p [] = append-none p.typed
typed-with p (c ∷ cs) = typed-with (with_part p c) cs ∙ append-next p.typed c.typed (map typed_in cs)

-- ---- in the words of the definitions
-- the same constant of a width from numbers with the same low bits
same-low : (width a b : ℕ) → a % 2 ^ 128 ≡ b % 2 ^ 128 → word (limited width) a ≡ word (limited width) (b % 2 ^ limited width)
same-low width a b same =
    let w = limited width in
    let within = limits width in
    sym (word-low w a within.least within.most)
    ∙ ap (word w) (sym (mod_mod_of a w within.most) ∙ ap (λ n. n % 2 ^ w) same ∙ mod_mod_of b w within.most)

own-same : (w v n m : ℕ) (c d : Bool) (f g : Option WidthErr) (one other : Node) → w ≡ v → c ≡ d → f ≡ g → word v n ≡ word v m
    → (f ≡ None → one ≡ other) → own_measured w false c f n one ≡ own_measured v false d g m other
own-same w v n m c d f g one other same_width same_constant same_fault same_word same_node =
    ap (λ x. own_measured x false c f n one) same_width ∙ ap (λ x. own_measured v false x f n one) same_constant
    ∙ ap (λ k. record { width = v; signed = false; constant = d; shape = shape.Own (if d then node.Const k else if is_some f then node.Whole 0 else one) f }) same_word
    ∙ by f same_fault same_node
  where
    by : (h : Option WidthErr) → h ≡ g → (h ≡ None → one ≡ other) → own_measured v false d h m one ≡ own_measured v false d g m other
    by None is same = ap (λ x. own_measured v false d None m x) (same refl) ∙ ap (λ x. own_measured v false d x m other) is
    by (Some x) is same = ap (λ y. record { width = v; signed = false; constant = d; shape = shape.Own (if d then node.Const (word v m) else if is_some y then node.Whole 0 else other) y }) is

-- a width that is counted up to 1,000 is the whole one, or both are more than 128
data Counted (width whole : ℕ) : Type 0 where
  counted : width ≡ whole → Counted width whole
  beyond : 128 < width → 128 < whole → Counted width whole

count-up : (whole : ℕ) → Counted (min whole 1000) whole
count-up whole = by (nat_le whole 1000) refl
  where
    by : (b : Bool) → nat_le whole 1000 ≡ b → Counted (min whole 1000) whole
    by true h = counted (min-eq_left (leb-true whole 1000 h))
    by false h = let more = leb-false whole 1000 h in beyond (omega (arith, more)) (omega (arith, more))

as-often : (times a : ℕ) → 1 ≤ times → 128 < a → 128 < times * a
as-often zero a some more = absurd (omega (arith, some))
as-often (suc times) a some more = let e : suc times * a ≡ times * a + a = omega arith in omega (arith, more, e)

count-times : (times width whole : ℕ) → 1 ≤ times → Counted width whole → Counted (times * width) (times * whole)
count-times times width whole some (counted same) = counted (ap (λ w. times * w) same)
count-times times width whole some (beyond one other) = beyond (as-often times width some one) (as-often times whole some other)

bad-more : (n : ℕ) → 128 < n → is_bad_width n ≡ true
bad-more n more = by (n == 0)
  where
    by : (b : Bool) → (b || nat_lt 128 n) ≡ true
    by true = refl
    by false = lt-ltb 128 n more

limited-same : (width whole : ℕ) → Counted width whole → limited width ≡ limited whole
limited-same width whole (counted same) = ap limited same
limited-same width whole (beyond one other) = omega (arith, one, other)

bad-same : (width whole : ℕ) → Counted width whole → is_bad_width width ≡ is_bad_width whole
bad-same width whole (counted same) = ap is_bad_width same
bad-same width whole (beyond one other) = bad-more width one ∙ sym (bad-more whole other)

sum-counted : (cs : List Closed) → Counted (with_parts no_parts cs).width (joined_width (map taken cs))
sum-counted cs =
    let whole = joined_width (map taken cs) in
    let e : (with_parts no_parts cs).width ≡ min whole 1000 = omega (arith, width-with no_parts cs (lit≤ tt)) in
    subst (λ w. Counted w whole) (sym e) (count-up whole)

number-parts : (cs : List Closed) → (with_parts no_parts cs).number % 2 ^ 128 ≡ joined_value 0 (map taken cs) zeros % 2 ^ 128
number-parts cs = number-with no_parts cs 0 refl

pub joined-same : (span : Span) (cs : List Closed) → joined_parts span (with_parts no_parts cs) ≡ joined_measured span cs
joined-same span cs =
    let p = with_parts no_parts cs in
    let whole = joined_width (map taken cs) in
    let sum = sum-counted cs in
    let width = limited-same p.width whole sum in
    own-same (limited p.width) (limited whole) p.number (joined_value 0 (map taken cs) zeros % 2 ^ limited whole) p.constant (are_constant (map taken cs))
    (option_or p.fault (when (is_bad_width p.width) (fault.Range span) None)) (option_or (faults_in cs) (concat_fault span (map taken cs)))
    (node.Join p.typed) (node.Join (map typed_in cs))
    width (constant-with no_parts cs)
    (ap (λ f. option_or f (when (is_bad_width p.width) (fault.Range span) None)) (fault-with no_parts cs)
    ∙ ap (λ b. option_or (faults_in cs) (when b (fault.Range span) None)) (bad-same p.width whole sum))
    (same-low whole p.number (joined_value 0 (map taken cs) zeros) (number-parts cs))
    (λ accepted. ap node.Join (typed-with no_parts cs))

shifted-same : (width whole a m : ℕ) → Counted width whole → (a * 2 ^ width + m) % 2 ^ 128 ≡ (a * 2 ^ whole + m) % 2 ^ 128
shifted-same width whole a m (counted same) = ap (λ w. (a * 2 ^ w + m) % 2 ^ 128) same
shifted-same width whole a m (beyond one other) =
    add-mod (a * 2 ^ width) m (2 ^ 128)
    ∙ ap (λ x. (x + m % 2 ^ 128) % 2 ^ 128) (shifted_out a width 128 (omega (arith, one)) ∙ sym (shifted_out a whole 128 (omega (arith, other))))
    ∙ sym (add-mod (a * 2 ^ whole) m (2 ^ 128))

many-same : (times width whole n m : ℕ) → Counted width whole → n % 2 ^ 128 ≡ m % 2 ^ 128 → many times width n % 2 ^ 128 ≡ repeated times whole m % 2 ^ 128
unfolding many repeated
many-same zero width whole n m sum same = refl
many-same (suc times) width whole n m sum same =
    ap (λ x. x % 2 ^ 128) (behind-mod (many times width n) (repeated times whole m) width n m (many-same times width whole n m sum same) same)
    ∙ mod-mod (repeated times whole m * 2 ^ width + m) (2 ^ 128) ∙ shifted-same width whole (repeated times whole m) m sum

some-times : (n : ℤ) → 1 ≤ times_of n
some-times (pos n) = le-max_left 1 (min n 255)
some-times (negsuc n) = lit≤ tt

whole-of : (width whole : ℕ) → Within width → Counted width whole → limited width ≡ whole
whole-of width whole within (counted same) = limited-within width within ∙ same
whole-of width whole within (beyond one other) = absurd (omega (arith, one, within.most))

pub repeated-same : (span : Span) (k : Closed) (cs : List Closed) → repeated_parts span k (with_parts no_parts cs) ≡ repeated_measured span k cs
repeated-same span k cs =
    let p = with_parts no_parts cs in
    let whole = joined_width (map taken cs) in
    let times = times_of (known (taken k)) in
    let sum = sum-counted cs in
    let some = some-times (known (taken k)) in
    let total = count-times times p.width whole some sum in
    let mine = first_of k.fault p.fault (count_fault span k (times * p.width)) in
    own-same (limited (times * p.width)) (limited (times * whole)) (many times p.width p.number)
    (repeated times whole (joined_value 0 (map taken cs) zeros) % 2 ^ limited (times * whole)) p.constant (are_constant (map taken cs))
    mine (first_of k.fault (faults_in cs) (repeat_fault span (taken k) (map taken cs)))
    (node.Repeat times (sized (limited p.width) false (node.Join p.typed))) (node.Repeat times (sized whole false (node.Join (map typed_in cs))))
    (limited-same (times * p.width) (times * whole) total) (constant-with no_parts cs)
    (ap (λ f. first_of k.fault f (count_fault span k (times * p.width))) (fault-with no_parts cs)
    ∙ ap (λ b. first_of k.fault (faults_in cs)
    (when (not k.constant) (fault.NotConstant span) (when (not (int_lt (pos 0) (known (taken k))) || b) (fault.Range span) None))) (bad-same (times * p.width) (times * whole) total))
    (same-low (times * whole) (many times p.width p.number) (repeated times whole (joined_value 0 (map taken cs) zeros))
    (many-same times p.width whole p.number (joined_value 0 (map taken cs) zeros) sum (number-parts cs)))
    (λ accepted.
    let own_fault = (first_of-none k.fault p.fault (count_fault span k (times * p.width)) accepted).2 in
    let range = (when-none (not k.constant) (fault.NotConstant span) (when (not (int_lt (pos 0) (known (taken k))) || is_bad_width (times * p.width)) (fault.Range span) None) own_fault).1 in
    let good = good-width (times * p.width)
    (or_false (not (int_lt (pos 0) (known (taken k)))) (is_bad_width (times * p.width)) (when-none (not (int_lt (pos 0) (known (taken k))) || is_bad_width (times * p.width)) (fault.Range span) None range).0).1 in
    ap (λ w. node.Repeat times (sized w false (node.Join p.typed))) (whole-of p.width whole (one-part times p.width some good) sum)
    ∙ ap (λ xs. node.Repeat times (sized whole false (node.Join xs))) (typed-with no_parts cs))
