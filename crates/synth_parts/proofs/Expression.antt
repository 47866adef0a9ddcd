-- The node of an expression stands for its value.
use Rattle.std.proofs.Common.{◌≡◌, ℕ, ◌+◌, ◌*◌, ◌^◌, ◌<◌, ◌≤◌, Bool, true, false, length, get_or, List, [], refl, sym, ◌∙◌, ap, ap₂, subst, arith}
use Rattle.std.specs.Prelude.{◌&&◌, ◌||◌, ◌==◌, nat_le, if◌then◌else◌}
use Rattle.std.specs.List.{list_all}
use Rattle.std.proofs.lemmas.Bool.{and_parts, ltb-true, leb-true, eqb-true}
use Rattle.std.proofs.lemmas.Nat.{pow_pos}
use Rattle.loc_base.specs.Bits.{width_of, value_of, value_of-range}
use Rattle.design_core.specs.declared.signal.Signal.{Signal}
use Rattle.design_core.specs.declared.expression.UnaryOp.TheVariants as unary_op
use Rattle.design_core.specs.declared.expression.BinaryOp.{BinaryOp}
use Rattle.design_core.specs.declared.expression.BinaryOp.TheVariants as binary_op
use Rattle.design_core.specs.declared.expression.Node.{Node, Row_of-Typed, end_of-Typed, more_of-Typed}
use Rattle.design_core.specs.declared.expression.Node.TheVariants.{Const, Whole, Slice, Pick', Word', Unary', Binary', Choose', Join', Repeat', Resize'}
use Rattle.design_core.specs.Valuation.{Valuation, bit, number, width_at, word_at}
use Rattle.design_core.specs.Operator.{is_true, one_if, integer_of, unary, binary, repeated, resized}
use Rattle.design_core.specs.Value.{picked, word_value, node_value, joined}
use Rattle.design_core.specs.WellFormed.{is_width, is_signal, signal_fits, slice_fits, words_fit, unary_fits, binary_fits, same_widths, signs_fit, joined_width, node_fits, parts_fit}
use Rattle.design_core.proofs.NumberLaws.{number-same}
use Rattle.word_net.specs.declared.node.Operation.TheVariants as operation
use Rattle.word_net.specs.declared.node.WordNode.{WordNode}
use Rattle.word_net.specs.Selects.{picked_bit}
use Rattle.word_net.specs.Values.{Source, values}
use Rattle.synth_parts.specs.declared.array_parts.ArrayPart.{ArrayPart}
use Rattle.word_net.specs.Build.{Made, pushed, Means, Grown, Gives}
use Rattle.word_net.proofs.Meaning.{keep, grown-then, grown-none, pushed-gives}
use Rattle.synth_parts.specs.Expression.{Prepared, operand, unsigned, signal_read, select_of, truth_made, is_logical, prepared, left_at, right_at, array_made, expression_made, join_made, parts_made}
use Rattle.synth_parts.specs.Meaning.{Shows, word_of}
use Rattle.synth_parts.proofs.Base.{signal-at, width-bounds, width-within, number-bits, true-one_if, gives-then, keep-shows}
use Rattle.synth_parts.proofs.Index.{picked-same}
use Rattle.synth_parts.proofs.Arrays.{array-fits, array-law}

-- ---- operands

-- what fits is a node of 1 to 128 bits
pub node-wide : (signals : List Signal) (width : ℕ) (signed : Bool) (n : Node) → node_fits signals width signed n ≡ true → is_width width ≡ true
node-wide signals width sign (Const word) fits = (and_parts (is_width width) (width_of word == width) fits).0
node-wide signals width sign (Whole s) fits = (and_parts (is_width width) (is_signal signals s) (and_parts (is_width width && is_signal signals s) (width_at signals s == width) fits).0).0
node-wide signals width sign (Slice s from size) fits =
    let f = and_parts (slice_fits signals s from size) (size == width) fits in
    subst (λ w. is_width w ≡ true) (eqb-true size width f.1)
    (and_parts (is_signal signals s) (is_width size) (and_parts (is_signal signals s && is_width size) (nat_le (from + size) (width_at signals s)) f.0).0).1
node-wide signals width sign (Pick' s _ (more_of-Typed index_width signed index end_of-Typed) offsets) fits =
    let f = and_parts (is_width width && is_signal signals s && (length offsets == width)) (node_fits signals index_width signed index) fits in
    let g = and_parts (is_width width && is_signal signals s) (length offsets == width) f.0 in
    (and_parts (is_width width) (is_signal signals s) g.0).0
node-wide signals width sign (Word' first count low _ (more_of-Typed index_width signed index end_of-Typed) from size) fits =
    let f = and_parts (words_fit signals first count from size && (size == width)) (node_fits signals index_width signed index) fits in
    let g = and_parts (words_fit signals first count from size) (size == width) f.0 in
    subst (λ w. is_width w ≡ true) (eqb-true size width g.1) (array-fits signals first count from size g.0).wide
node-wide signals width sign (Unary' op _ (more_of-Typed arg_width signed arg end_of-Typed)) fits =
    (and_parts (is_width width) (unary_fits op width arg_width) (and_parts (is_width width && unary_fits op width arg_width) (node_fits signals arg_width signed arg) fits).0).0
node-wide signals width sign (Binary' op _ (more_of-Typed left_width left_signed left end_of-Typed) _ (more_of-Typed right_width right_signed right end_of-Typed)) fits =
    let a : Bool = is_width width && binary_fits op width left_width right_width in
    let b : Bool = signs_fit op sign left_signed right_signed in
    let c : Bool = node_fits signals left_width left_signed left in
    (and_parts (is_width width) (binary_fits op width left_width right_width)
    (and_parts a b (and_parts (a && b) c (and_parts (a && b && c) (node_fits signals right_width right_signed right) fits).0).0).0).0
node-wide signals width sign (Choose' _ (more_of-Typed cond_width cond_signed test end_of-Typed) _ (more_of-Typed true_width true_signed on_true end_of-Typed) _ (more_of-Typed false_width false_signed on_false end_of-Typed)) fits =
    let a : Bool = same_widths width true_width false_width in
    let b : Bool = node_fits signals cond_width cond_signed test in
    let c : Bool = node_fits signals true_width true_signed on_true in
    let f = and_parts (a && b && c) (node_fits signals false_width false_signed on_false) fits in
    let g = and_parts (a && b) c f.0 in
    let same = (and_parts (width == true_width) (width == false_width) (and_parts a b g.0).0).0 in
    subst (λ w. is_width w ≡ true) (sym (eqb-true width true_width same)) (node-wide signals true_width true_signed on_true g.1)
node-wide signals width sign (Join' _ parts) fits =
    (and_parts (is_width width) (joined_width parts == width) (and_parts (is_width width && (joined_width parts == width)) (parts_fit signals parts) fits).0).0
node-wide signals width sign (Repeat' times _ (more_of-Typed part_width signed part end_of-Typed)) fits =
    (and_parts (is_width width) (times * part_width == width) (and_parts (is_width width && (times * part_width == width)) (node_fits signals part_width signed part) fits).0).0
node-wide signals width sign (Resize' _ (more_of-Typed arg_width signed arg end_of-Typed)) fits = (and_parts (is_width width) (node_fits signals arg_width signed arg) fits).0

-- the truth value of a word
pub truth-law : {e : Source} {nodes : List WordNode} {word width v : ℕ} → Means e nodes word width v → Gives e nodes (truth_made nodes word width) 1 (one_if (is_true v))
unfolding truth_made
truth-law {e} {nodes} {word} {width} {v} m =
    pushed-gives e nodes 1 (operation.Unary unary_op.ReduceOr (unsigned word width)) (one_if (is_true v)) refl (m.there, refl) (ap (λ n. one_if (is_true n)) m.is)

-- an operand is what it was, or its truth value
record PreparedGives (e : Source) (nodes : List WordNode) (p : Prepared) (logical : Bool) (w : ℕ) (signed : Bool) (v : ℕ) : Type 0 where
  grown : Grown nodes p.nodes
  means : Means e p.nodes p.operand.node p.operand.width (if logical then one_if (is_true v) else v)
  wide : p.operand.width ≡ (if logical then 1 else w)
  sign : p.operand.signed ≡ (if logical then false else signed)

prepared-law : {e : Source} {nodes : List WordNode} {word width v : ℕ} (logical signed : Bool) → Means e nodes word width v
    → PreparedGives e nodes (prepared logical nodes word width signed) logical width signed v
unfolding prepared
prepared-law true signed m = let t = truth-law m in record { grown = t.grown; means = t.means; wide = refl; sign = refl }
prepared-law {e} {nodes} false signed m = record { grown = grown-none nodes; means = m; wide = refl; sign = refl }

-- the logical operators ask for truth values alone
logical-fits : (op : BinaryOp) (logical : Bool) (width v w : ℕ) → is_logical op ≡ logical → binary_fits op width v w ≡ true
    → binary_fits op width (if logical then 1 else v) (if logical then 1 else w) ≡ true
logical-fits binary_op.LogicalAnd true width v w is fits = fits
logical-fits binary_op.LogicalOr true width v w is fits = fits
logical-fits op false width v w is fits = fits
logical-fits _ true width v w is fits = absurd cc

and-truths : (a b : Bool) → one_if (is_true (one_if a) && is_true (one_if b)) ≡ one_if (a && b)
and-truths true true = refl
and-truths true false = refl
and-truths false b = refl

or-truths : (a b : Bool) → one_if (is_true (one_if a) || is_true (one_if b)) ≡ one_if (a || b)
or-truths true b = refl
or-truths false true = refl
or-truths false false = refl

logical-value : (op : BinaryOp) (logical : Bool) (v : ℕ) (r s : Bool) (a b : ℕ) → is_logical op ≡ logical
    → binary op (if logical then 1 else v) (if logical then false else r) (if logical then false else s) (if logical then one_if (is_true a) else a) (if logical then one_if (is_true b) else b)
    ≡ binary op v r s a b
logical-value binary_op.LogicalAnd true v r s a b is = and-truths (is_true a) (is_true b)
logical-value binary_op.LogicalOr true v r s a b is = or-truths (is_true a) (is_true b)
logical-value op false v r s a b is = refl
logical-value _ true v r s a b is = absurd cc

-- ---- expressions
mutual
  unfolding expression_made join_made parts_made

  pub expression-law : {e : Source} {signals : List Signal} {nodes_of : List ℕ} {V : Valuation} (width : ℕ) (signed : Bool) (n : Node) {nodes : List WordNode}
      → list_all signal_fits signals ≡ true → node_fits signals width signed n ≡ true → Shows e signals nodes nodes_of V
      → Gives e nodes (expression_made signals nodes_of nodes width n) width (node_value signals V width n)
  expression-law {e} {signals} {nodes_of} {V} width sign (Const word) {nodes} own fits shows =
      let f = and_parts (is_width width) (width_of word == width) fits in
      pushed-gives e nodes width (operation.Const (value_of word)) (value_of word) f.0
      (subst (λ w. value_of word < 2 ^ w) (eqb-true (width_of word) width f.1) (value_of-range word)) refl
  expression-law {e} {signals} {nodes_of} {V} width sign (Whole s) {nodes} own fits shows =
      let f = and_parts (is_width width && is_signal signals s) (width_at signals s == width) fits in
      let there = (and_parts (is_width width) (is_signal signals s) f.0).1 in
      record {
        grown = grown-none nodes;
        means = subst (λ w. Means e nodes (get_or nodes_of s 0) w (number w (V s))) (eqb-true (width_at signals s) width f.1) (shows.are s (ltb-true s (length signals) there));
      }
  expression-law {e} {signals} {nodes_of} {V} width sign (Slice s from size) {nodes} own fits shows =
      let f = and_parts (slice_fits signals s from size) (size == width) fits in
      let g = and_parts (is_signal signals s && is_width size) (nat_le (from + size) (width_at signals s)) f.0 in
      let h = and_parts (is_signal signals s) (is_width size) g.0 in
      let within : from + size ≤ width_at signals s = leb-true (from + size) (width_at signals s) g.1 in
      let word = shows.are s (ltb-true s (length signals) h.0) in
      subst (λ w. Gives e nodes (pushed nodes size (operation.Slice (signal_read signals nodes_of s) from)) w (number size (λ b. V s (from + b)))) (eqb-true size width f.1)
      (pushed-gives e nodes size (operation.Slice (signal_read signals nodes_of s) from) (number size (λ b. V s (from + b))) h.1 (word.there, within)
      (ap (λ v. number size (λ b. bit v (from + b))) word.is ∙ number-bits (width_at signals s) size from (V s) within))
  expression-law {e} {signals} {nodes_of} {V} width sign (Pick' s _ (more_of-Typed index_width signed index end_of-Typed) offsets) {nodes} own fits shows =
      let f = and_parts (is_width width && is_signal signals s && (length offsets == width)) (node_fits signals index_width signed index) fits in
      let g = and_parts (is_width width && is_signal signals s) (length offsets == width) f.0 in
      let h = and_parts (is_width width) (is_signal signals s) g.0 in
      let i = expression-law index_width signed index own f.1 shows in
      let m : Made = expression_made signals nodes_of nodes index_width index in
      let iv : ℕ = node_value signals V index_width index in
      let word = (keep-shows i.grown shows).are s (ltb-true s (length signals) h.1) in
      let select = select_of signals s (operand m.node index_width signed) offsets in
      gives-then i.grown
      (pushed-gives e m.nodes width (operation.Pick (signal_read signals nodes_of s) select) (number width (picked signals V s (integer_of signed index_width iv) offsets)) h.0
      (word.there, record { index = i.means.there; range = (signal-at signals s own h.1).1 }, eqb-true (length offsets) width g.1)
      (ap₂ (λ v n. number width (picked_bit (record { width = width_at signals s; left = left_at signals s; right = right_at signals s }) (bit v) (integer_of signed index_width n) offsets)) word.is i.means.is
      ∙ number-same width (picked_bit (record { width = width_at signals s; left = left_at signals s; right = right_at signals s }) (bit (word_of signals V s)) (integer_of signed index_width iv) offsets)
      (picked signals V s (integer_of signed index_width iv) offsets) (λ b low. picked-same signals V s (integer_of signed index_width iv) offsets b h.1)))
  expression-law {e} {signals} {nodes_of} {V} width sign (Word' first count low _ (more_of-Typed index_width signed index end_of-Typed) from size) {nodes} own fits shows =
      let f = and_parts (words_fit signals first count from size && (size == width)) (node_fits signals index_width signed index) fits in
      let g = and_parts (words_fit signals first count from size) (size == width) f.0 in
      let i = expression-law index_width signed index own f.1 shows in
      let m : Made = expression_made signals nodes_of nodes index_width index in
      let iv : ℕ = node_value signals V index_width index in
      let array : ArrayPart = record { first = first; low = low; index = operand m.node index_width signed; from = from; width = size } in
      subst (λ w. Gives e nodes (array_made signals nodes_of array m.nodes count) w (word_value V from size (word_at first count low (integer_of signed index_width iv)))) (eqb-true size width g.1)
      (gives-then i.grown (array-law array count iv (array-fits signals first count from size g.0) (keep-shows i.grown shows) i.means))
  expression-law {e} {signals} {nodes_of} {V} width sign (Unary' op _ (more_of-Typed arg_width signed arg end_of-Typed)) {nodes} own fits shows =
      let f = and_parts (is_width width && unary_fits op width arg_width) (node_fits signals arg_width signed arg) fits in
      let g = and_parts (is_width width) (unary_fits op width arg_width) f.0 in
      let a = expression-law arg_width signed arg own f.1 shows in
      let m : Made = expression_made signals nodes_of nodes arg_width arg in
      gives-then a.grown (pushed-gives e m.nodes width (operation.Unary op (unsigned m.node arg_width)) (unary op arg_width (node_value signals V arg_width arg)) g.0 (a.means.there, g.1) (ap (unary op arg_width) a.means.is))
  expression-law {e} {signals} {nodes_of} {V} width sign (Binary' op _ (more_of-Typed left_width left_signed left end_of-Typed) _ (more_of-Typed right_width right_signed right end_of-Typed)) {nodes} own fits shows =
      let x : Bool = is_width width && binary_fits op width left_width right_width in
      let y : Bool = signs_fit op sign left_signed right_signed in
      let z : Bool = node_fits signals left_width left_signed left in
      let f = and_parts (x && y && z) (node_fits signals right_width right_signed right) fits in
      let g = and_parts (x && y) z f.0 in
      let h = and_parts (is_width width) (binary_fits op width left_width right_width) (and_parts x y g.0).0 in
      let logical : Bool = is_logical op in
      let av : ℕ = node_value signals V left_width left in
      let bv : ℕ = node_value signals V right_width right in
      let a = expression-law left_width left_signed left own g.1 shows in
      let ma : Made = expression_made signals nodes_of nodes left_width left in
      let l = prepared-law logical left_signed a.means in
      let ml : Prepared = prepared logical ma.nodes ma.node left_width left_signed in
      let b = expression-law right_width right_signed right own f.1 (keep-shows (grown-then a.grown l.grown) shows) in
      let mb : Made = expression_made signals nodes_of ml.nodes right_width right in
      let r = prepared-law logical right_signed b.means in
      let mr : Prepared = prepared logical mb.nodes mb.node right_width right_signed in
      let one = keep (grown-then b.grown r.grown) l.means in
      gives-then (grown-then a.grown (grown-then l.grown (grown-then b.grown r.grown)))
      (pushed-gives e mr.nodes width (operation.Binary op ml.operand mr.operand) (binary op left_width left_signed right_signed av bv) h.0
      (one.there, r.means.there, ap₂ (binary_fits op width) l.wide r.wide ∙ logical-fits op logical width left_width right_width refl h.1)
      (ap₂ (λ u v. binary op ml.operand.width ml.operand.signed mr.operand.signed u v) one.is r.means.is
      ∙ ap (λ w. binary op w ml.operand.signed mr.operand.signed (if logical then one_if (is_true av) else av) (if logical then one_if (is_true bv) else bv)) l.wide
      ∙ ap₂ (λ s t. binary op (if logical then 1 else left_width) s t (if logical then one_if (is_true av) else av) (if logical then one_if (is_true bv) else bv)) l.sign r.sign
      ∙ logical-value op logical left_width left_signed right_signed av bv refl))
  expression-law {e} {signals} {nodes_of} {V} width sign (Choose' _ (more_of-Typed cond_width cond_signed test end_of-Typed) _ (more_of-Typed true_width true_signed on_true end_of-Typed) _ (more_of-Typed false_width false_signed on_false end_of-Typed)) {nodes} own fits shows =
      let x : Bool = same_widths width true_width false_width in
      let y : Bool = node_fits signals cond_width cond_signed test in
      let z : Bool = node_fits signals true_width true_signed on_true in
      let f = and_parts (x && y && z) (node_fits signals false_width false_signed on_false) fits in
      let g = and_parts (x && y) z f.0 in
      let h = and_parts x y g.0 in
      let same = and_parts (width == true_width) (width == false_width) h.0 in
      let wide = node-wide signals width sign (Choose' _ (more_of-Typed cond_width cond_signed test end_of-Typed) _ (more_of-Typed true_width true_signed on_true end_of-Typed) _ (more_of-Typed false_width false_signed on_false end_of-Typed)) fits in
      let tv : ℕ = node_value signals V cond_width test in
      let av : ℕ = node_value signals V true_width on_true in
      let bv : ℕ = node_value signals V false_width on_false in
      let c = expression-law cond_width cond_signed test own h.1 shows in
      let mc : Made = expression_made signals nodes_of nodes cond_width test in
      let t = truth-law c.means in
      let mt : Made = truth_made mc.nodes mc.node cond_width in
      let a = expression-law true_width true_signed on_true own g.1 (keep-shows (grown-then c.grown t.grown) shows) in
      let ma : Made = expression_made signals nodes_of mt.nodes true_width on_true in
      let b = expression-law false_width false_signed on_false own f.1 (keep-shows (grown-then c.grown (grown-then t.grown a.grown)) shows) in
      let mb : Made = expression_made signals nodes_of ma.nodes false_width on_false in
      let tm = keep (grown-then a.grown b.grown) t.means in
      let am = keep b.grown a.means in
      gives-then (grown-then c.grown (grown-then t.grown (grown-then a.grown b.grown)))
      (pushed-gives e mb.nodes width (operation.Choose (unsigned mt.node 1) (unsigned ma.node true_width) (unsigned mb.node false_width)) (if is_true tv then av else bv) wide
      (record { there = tm.there; wide = refl }, record { there = am.there; wide = sym (eqb-true width true_width same.0) }, record { there = b.means.there; wide = sym (eqb-true width false_width same.1) })
      (ap (λ v. if is_true v then get_or (values e [] mb.nodes) ma.node 0 else get_or (values e [] mb.nodes) mb.node 0) tm.is
      ∙ ap (λ v. if v then get_or (values e [] mb.nodes) ma.node 0 else get_or (values e [] mb.nodes) mb.node 0) (true-one_if (is_true tv))
      ∙ ap₂ (λ u v. if is_true tv then u else v) am.is b.means.is))
  expression-law {e} {signals} {nodes_of} {V} width sign (Join' _ parts) own fits shows =
      let f = and_parts (is_width width && (joined_width parts == width)) (parts_fit signals parts) fits in
      let g = and_parts (is_width width) (joined_width parts == width) f.0 in
      join-law width parts own g.0 (eqb-true (joined_width parts) width g.1) f.1 shows
  expression-law {e} {signals} {nodes_of} {V} width sign (Repeat' times _ (more_of-Typed part_width signed part end_of-Typed)) {nodes} own fits shows =
      let f = and_parts (is_width width && (times * part_width == width)) (node_fits signals part_width signed part) fits in
      let g = and_parts (is_width width) (times * part_width == width) f.0 in
      let p = expression-law part_width signed part own f.1 shows in
      let m : Made = expression_made signals nodes_of nodes part_width part in
      gives-then p.grown
      (pushed-gives e m.nodes width (operation.Repeat times (unsigned m.node part_width)) (repeated times part_width (node_value signals V part_width part)) g.0
      (p.means.there, eqb-true (times * part_width) width g.1) (ap (repeated times part_width) p.means.is))
  expression-law {e} {signals} {nodes_of} {V} width sign (Resize' _ (more_of-Typed arg_width signed arg end_of-Typed)) {nodes} own fits shows =
      let f = and_parts (is_width width) (node_fits signals arg_width signed arg) fits in
      let a = expression-law arg_width signed arg own f.1 shows in
      let m : Made = expression_made signals nodes_of nodes arg_width arg in
      gives-then a.grown
      (pushed-gives e m.nodes width (operation.Resize (operand m.node arg_width signed)) (resized width signed arg_width (node_value signals V arg_width arg)) f.0 a.means.there
      (ap (resized width signed arg_width) a.means.is))

  pub join-law : {e : Source} {signals : List Signal} {nodes_of : List ℕ} {V : Valuation} {shape : _} (width : ℕ) (parts : Row_of-Typed shape) {nodes : List WordNode}
      → list_all signal_fits signals ≡ true → is_width width ≡ true → joined_width parts ≡ width → parts_fit signals parts ≡ true → Shows e signals nodes nodes_of V
      → Gives e nodes (join_made signals nodes_of nodes width parts) width (joined signals V 0 parts)
  join-law {e} width end_of-Typed {nodes} own wide all fits shows = pushed-gives e nodes width (operation.Const 0) 0 wide (pow_pos width) refl
  join-law {e} {signals} {nodes_of} {V} width (more_of-Typed part_width signed part rest) {nodes} own wide all fits shows =
      let f = and_parts (node_fits signals part_width signed part) (parts_fit signals rest) fits in
      let p = expression-law part_width signed part own f.0 shows in
      let low = width-bounds part_width (node-wide signals part_width signed part f.0) in
      let v : ℕ = node_value signals V part_width part in
      let start : v ≡ 0 * 2 ^ part_width + v = omega arith in
      gives-then p.grown
      (parts-law width (expression_made signals nodes_of nodes part_width part).node part_width (0 * 2 ^ part_width + v) rest own wide all low.0 f.1 (keep-shows p.grown shows)
      (subst (λ n. Means e (expression_made signals nodes_of nodes part_width part).nodes (expression_made signals nodes_of nodes part_width part).node part_width n) start p.means))

  pub parts-law : {e : Source} {signals : List Signal} {nodes_of : List ℕ} {V : Valuation} {shape : _} (width left left_width v : ℕ) (parts : Row_of-Typed shape) {nodes : List WordNode}
      → list_all signal_fits signals ≡ true → is_width width ≡ true → left_width + joined_width parts ≡ width → 1 ≤ left_width → parts_fit signals parts ≡ true → Shows e signals nodes nodes_of V
      → Means e nodes left left_width v
      → Gives e nodes (parts_made signals nodes_of nodes left left_width parts) width (joined signals V v parts)
  parts-law {e} width left left_width v end_of-Typed {nodes} own wide all some fits shows m =
      let same : left_width ≡ width = omega (arith, all) in
      record { grown = grown-none nodes; means = subst (λ w. Means e nodes left w v) same m }
  parts-law {e} {signals} {nodes_of} {V} width left left_width v (more_of-Typed part_width signed part rest) {nodes} own wide all some fits shows m =
      let f = and_parts (node_fits signals part_width signed part) (parts_fit signals rest) fits in
      let p = expression-law part_width signed part own f.0 shows in
      let mp : Made = expression_made signals nodes_of nodes part_width part in
      let pv : ℕ = node_value signals V part_width part in
      let top = width-bounds width wide in
      let l = keep p.grown m in
      let j = pushed-gives e mp.nodes (left_width + part_width) (operation.Join (unsigned left left_width) (unsigned mp.node part_width)) (v * 2 ^ part_width + pv)
      (width-within (left_width + part_width) (omega (arith, some)) (omega (arith, all, top.1))) (l.there, p.means.there, refl) (ap₂ (λ a b. a * 2 ^ part_width + b) l.is p.means.is) in
      let mj : Made = pushed mp.nodes (left_width + part_width) (operation.Join (unsigned left left_width) (unsigned mp.node part_width)) in
      gives-then (grown-then p.grown j.grown)
      (parts-law width mj.node (left_width + part_width) (v * 2 ^ part_width + pv) rest own wide (omega (arith, all)) (omega (arith, some)) f.1 (keep-shows (grown-then p.grown j.grown) shows) j.means)
