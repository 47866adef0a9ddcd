-- A freed statement fits where the statement does, and the nets and places of its conditions have their widths.
use Rattle.std.proofs.Common.{ℕ, ◌+◌, ◌≡◌, ◌<◌, Bool, true, false, ◌&&◌, List, [], ◌∷◌, ◌++◌, length, refl, ap, ◌∙◌, sym, subst, arith}
use Rattle.std.specs.Prelude.{◌==◌, ◌*◌, nat_le, take, drop, if◌then◌else◌}
use Rattle.std.specs.List.{list_all}
use Rattle.std.proofs.lemmas.Bool.{and_parts, and_from, lt-ltb, le-leb, eq-eqb, eqb-true}
use Rattle.loc_base.specs.Bits.{width_of}
use Rattle.design_core.specs.declared.signal.Signal.{Signal}
use Rattle.design_core.specs.declared.place.Place.{Place}
use Rattle.design_core.specs.declared.expression.Typed.{Typed}
use Rattle.design_core.specs.declared.expression.Node.{Node, end_of-Typed, more_of-Typed}
use Rattle.design_core.specs.declared.expression.Node.TheVariants as node
use Rattle.design_core.specs.declared.statement.Part.TheVariants as part
use Rattle.design_core.specs.declared.statement.Stmt.{Stmt, Row_of-Stmt, end_of-Stmt, more_of-Stmt, Row_of-CaseItem, end_of-CaseItem, more_of-CaseItem}
use Rattle.design_core.specs.declared.statement.Stmt.TheVariants.{Nothing, Block', If', Case', Set}
use Rattle.design_core.specs.Constant.{is_constant}
use Rattle.design_core.specs.Valuation.{width_at}
use Rattle.design_core.specs.WellFormed.{is_width, is_signal, slice_fits, words_fit, unary_fits, binary_fits, signs_fit, same_widths, joined_width, node_fits, parts_fit, typed_fits, part_fits, place_fits, assignment_fits, label_fits, statement_fits, statements_fit, items_fit}
use Rattle.freed_conditions.specs.Kept.{Next, behind, behind_one, truth, kept, from_kept, kept_of, subject_of, whole, keep}
use Rattle.freed_conditions.specs.Widths.{own_width, widths, widths_of, widths_in}
use Rattle.freed_conditions.specs.Freed.{both, freed, freed_all, freed_in}
use Rattle.freed_conditions.specs.Alike.{Fitted}
use Rattle.freed_conditions.proofs.SignalsMore.{slice_get-left, slice_get-behind}
use Rattle.freed_conditions.proofs.KeptLaws.{kept-fits}
use Rattle.freed_conditions.proofs.FitsMore.{and_map, typed_fits-more, labels_fit-more, assignment_fits-more}

pub if_known : {X : Type 0} (P : X → Type 0) (t : Bool) (x y : X) → (t ≡ true → P x) → (t ≡ false → P y) → P (if t then x else y)
if_known P true x y one other = one refl
if_known P false x y one other = other refl

-- ---- the width of an expression that fits
pub node_fits-width : (signals : List Signal) (width : ℕ) (signed : Bool) (e : Node) → node_fits signals width signed e ≡ true → is_width width ≡ true
node_fits-width signals width signed (node.Const word) fits = (and_parts (is_width width) (width_of word == width) fits).0
node_fits-width signals width signed (node.Whole s) fits =
    (and_parts (is_width width) (is_signal signals s) (and_parts (is_width width && is_signal signals s) (width_at signals s == width) fits).0).0
node_fits-width signals width signed (node.Slice s from size) fits =
    let fit = and_parts (slice_fits signals s from size) (size == width) fits in
    let front = and_parts (is_signal signals s && is_width size) (nat_le (from + size) (width_at signals s)) fit.0 in
    sym (ap is_width (eqb-true size width fit.1)) ∙ (and_parts (is_signal signals s) (is_width size) front.0).1
node_fits-width signals width signed (node.Pick' s _ (more_of-Typed index_width index_signed index end_of-Typed) offsets) fits =
    let fit = and_parts (is_width width && is_signal signals s && length offsets == width) (node_fits signals index_width index_signed index) fits in
    (and_parts (is_width width) (is_signal signals s) (and_parts (is_width width && is_signal signals s) (length offsets == width) fit.0).0).0
node_fits-width signals width signed (node.Word' first count _ _ (more_of-Typed index_width index_signed index end_of-Typed) from size) fits =
    let fit = and_parts (words_fit signals first count from size && size == width) (node_fits signals index_width index_signed index) fits in
    let here = and_parts (words_fit signals first count from size) (size == width) fit.0 in
    let words = and_parts (nat_le 1 count && nat_le (first + count) (length signals) && slice_fits signals first from size)
    (list_all (λ s. s.width == width_at signals first) (take count (drop first signals))) here.0 in
    let slice = and_parts (nat_le 1 count && nat_le (first + count) (length signals)) (slice_fits signals first from size) words.0 in
    let front = and_parts (is_signal signals first && is_width size) (nat_le (from + size) (width_at signals first)) slice.1 in
    sym (ap is_width (eqb-true size width here.1)) ∙ (and_parts (is_signal signals first) (is_width size) front.0).1
node_fits-width signals width signed (node.Unary' op _ (more_of-Typed arg_width arg_signed arg end_of-Typed)) fits =
    (and_parts (is_width width) (unary_fits op width arg_width) (and_parts (is_width width && unary_fits op width arg_width) (node_fits signals arg_width arg_signed arg) fits).0).0
node_fits-width signals width signed (node.Binary' op _ (more_of-Typed left_width left_signed left end_of-Typed) _ (more_of-Typed right_width right_signed right end_of-Typed)) fits =
    let one = and_parts (is_width width && binary_fits op width left_width right_width && signs_fit op signed left_signed right_signed && node_fits signals left_width left_signed left)
    (node_fits signals right_width right_signed right) fits in
    let two = and_parts (is_width width && binary_fits op width left_width right_width && signs_fit op signed left_signed right_signed) (node_fits signals left_width left_signed left) one.0 in
    let three = and_parts (is_width width && binary_fits op width left_width right_width) (signs_fit op signed left_signed right_signed) two.0 in
    (and_parts (is_width width) (binary_fits op width left_width right_width) three.0).0
node_fits-width signals width signed (node.Choose' _ (more_of-Typed cond_width cond_signed cond end_of-Typed) _ (more_of-Typed true_width true_signed on_true end_of-Typed) _ (more_of-Typed false_width false_signed on_false end_of-Typed)) fits =
    let one = and_parts (same_widths width true_width false_width && node_fits signals cond_width cond_signed cond && node_fits signals true_width true_signed on_true)
    (node_fits signals false_width false_signed on_false) fits in
    let two = and_parts (same_widths width true_width false_width && node_fits signals cond_width cond_signed cond) (node_fits signals true_width true_signed on_true) one.0 in
    let three = and_parts (same_widths width true_width false_width) (node_fits signals cond_width cond_signed cond) two.0 in
    let same : width ≡ true_width = eqb-true width true_width (and_parts (width == true_width) (width == false_width) three.0).0 in
    ap is_width same ∙ node_fits-width signals true_width true_signed on_true two.1
node_fits-width signals width signed (node.Join' _ parts) fits =
    (and_parts (is_width width) (joined_width parts == width) (and_parts (is_width width && joined_width parts == width) (parts_fit signals parts) fits).0).0
node_fits-width signals width signed (node.Repeat' times _ (more_of-Typed part_width part_signed p end_of-Typed)) fits =
    (and_parts (is_width width) (times * part_width == width) (and_parts (is_width width && times * part_width == width) (node_fits signals part_width part_signed p) fits).0).0
node_fits-width signals width signed (node.Resize' _ (more_of-Typed arg_width arg_signed arg end_of-Typed)) fits =
    (and_parts (is_width width) (node_fits signals arg_width arg_signed arg) fits).0

-- ---- the nets and places of two lists of conditions
pub fitted-left : (signals : List Signal) (places : List Place) (n : Next) (xs ys : List ℕ) → Fitted signals places n (xs ++ ys) → Fitted signals places n xs
fitted-left signals places n xs ys h = record {
  nets = λ i w at. h.nets i w (slice_get-left xs ys i w at);
  places = λ i w at. h.places i w (slice_get-left xs ys i w at);
}

pub fitted-right : (signals : List Signal) (places : List Place) (n : Next) (xs ys : List ℕ) → Fitted signals places n (xs ++ ys) → Fitted signals places (behind xs n) ys
fitted-right signals places n xs ys h = record {
  nets = λ i w at.
      let moved : n.signal + (length xs + i) ≡ (n.signal + length xs) + i = omega arith in
      subst (λ s. (s < length signals) × (width_at signals s ≡ w)) moved (h.nets (length xs + i) w (slice_get-behind xs ys i ∙ at));
  places = λ i w at.
      let moved : (n.place + length xs) + i ≡ n.place + (length xs + i) = omega arith in
      ap (place_fits places w) moved ∙ h.places (length xs + i) w (slice_get-behind xs ys i ∙ at);
}

fitted-own : (signals : List Signal) (places : List Place) (n : Next) (e : Typed) (w : ℕ) (ws : List ℕ) (t : Bool) → is_constant e.node ≡ t
    → Fitted signals places n (own_width e w ++ ws) → Fitted signals places n ((if t then [] else (w ∷ [])) ++ ws)
fitted-own signals places n e w ws t is h = subst (λ x. Fitted signals places n ((if x then [] else (w ∷ [])) ++ ws)) is h

fitted-net : (signals : List Signal) (places : List Place) (n : Next) (w : ℕ) (ws : List ℕ) → Fitted signals places n (w ∷ ws) → (n.signal < length signals) × (width_at signals n.signal ≡ w)
fitted-net signals places n w ws h =
    let here : n.signal + 0 ≡ n.signal = omega arith in
    subst (λ s. (s < length signals) × (width_at signals s ≡ w)) here (h.nets 0 w refl)

fitted-place : (signals : List Signal) (places : List Place) (n : Next) (w : ℕ) (ws : List ℕ) → Fitted signals places n (w ∷ ws) → place_fits places w n.place ≡ true
fitted-place signals places n w ws h =
    let here : n.place ≡ n.place + 0 = omega arith in
    ap (place_fits places w) here ∙ h.places 0 w refl

-- ---- what keeps a condition, and what goes by it
keep-fits : (signals : List Signal) (places : List Place) (n : Next) (e : Typed) (w : ℕ) (ws : List ℕ) → Fitted signals places n (w ∷ ws)
    → is_width w ≡ true → typed_fits signals e ≡ true → e.width ≡ w → statement_fits signals places (keep n e) ≡ true
keep-fits signals places n e w ws h wide fits width =
    let net = fitted-net signals places n w ws h in
    let own : width_at signals n.signal ≡ w = net.1 in
    let same : width_at signals n.signal + 0 ≡ w = ap (λ x. x + 0) own ∙ omega arith in
    let pw : ℕ = width_at signals n.signal + 0 in
    let whole : (is_signal signals n.signal && true) ≡ true = and_from (is_signal signals n.signal) true (lt-ltb n.signal (length signals) net.0) refl in
    and_from (assignment_fits signals (part.Whole n.signal ∷ []) e) (place_fits places pw n.place)
    (and_from (list_all (part_fits signals) (part.Whole n.signal ∷ []) && is_width pw && typed_fits signals e) (nat_le pw e.width)
    (and_from (list_all (part_fits signals) (part.Whole n.signal ∷ []) && is_width pw) (typed_fits signals e)
    (and_from (list_all (part_fits signals) (part.Whole n.signal ∷ [])) (is_width pw) whole (ap is_width same ∙ wide)) fits)
    (ap (λ x. nat_le x e.width) same ∙ le-leb w e.width (omega arith)))
    (ap (λ x. place_fits places x n.place) same ∙ fitted-place signals places n w ws h)

whole-fits : (signals : List Signal) (width : ℕ) (signed : Bool) (h : ℕ) → h < length signals → width_at signals h ≡ width → is_width width ≡ true
    → typed_fits signals (whole width signed h) ≡ true
whole-fits signals width signed h below is wide =
    and_from (is_width width && is_signal signals h) (width_at signals h == width)
    (and_from (is_width width) (is_signal signals h) wide (lt-ltb h (length signals) below)) (eq-eqb (width_at signals h) width is)

subject-fits : (signals more : List Signal) (width : ℕ) (signed : Bool) (e : Node) (h : ℕ) → node_fits signals width signed e ≡ true → h < length more
    → width_at more h ≡ (kept width signed e).width → typed_fits more (from_kept width signed e h) ≡ true
subject-fits signals more width signed (node.Resize' _ (more_of-Typed arg_width arg_signed arg end_of-Typed)) h fits below is =
    let fit = and_parts (is_width width) (node_fits signals arg_width arg_signed arg) fits in
    and_from (is_width width) (node_fits more arg_width arg_signed (node.Whole h)) fit.0
    (whole-fits more arg_width arg_signed h below is (node_fits-width signals arg_width arg_signed arg fit.1))
subject-fits signals more width signed e h fits below is = whole-fits more width signed h below is (node_fits-width signals width signed e fits)

-- the subject keeps its width
subject_width : (width : ℕ) (signed : Bool) (e : Node) (h : ℕ) → (from_kept width signed e h).width ≡ width
subject_width width signed (node.Resize' _ (more_of-Typed arg_width arg_signed arg end_of-Typed)) h = refl
subject_width width signed _ h = refl

-- two statements, one after the other
both-fit : (signals : List Signal) (places : List Place) (first second : Stmt) → statement_fits signals places first ≡ true → statement_fits signals places second ≡ true
    → statement_fits signals places (both first second) ≡ true
both-fit signals places first second one other =
    and_from (statement_fits signals places first) (statement_fits signals places second && true) one (and_from (statement_fits signals places second) true other refl)

mutual
  pub freed-fits : (signals hidden : List Signal) (places more : List Place) (n : Next) (statement : Stmt) → statement_fits signals places statement ≡ true
      → Fitted (signals ++ hidden) (places ++ more) n (widths statement) → statement_fits (signals ++ hidden) (places ++ more) (freed n statement) ≡ true
  freed-fits signals hidden places more n Nothing fits h = refl
  freed-fits signals hidden places more n (Block' _ statements) fits h = freed_all-fits signals hidden places more n statements fits h
  freed-fits signals hidden places more n (If' test _ (more_of-Stmt on_true end_of-Stmt) _ (more_of-Stmt on_false end_of-Stmt)) fits h =
      let S = signals ++ hidden in
      let P = places ++ more in
      let fit = and_parts (typed_fits signals test && statement_fits signals places on_true) (statement_fits signals places on_false) fits in
      let front = and_parts (typed_fits signals test) (statement_fits signals places on_true) fit.0 in
      let arms = widths on_true ++ widths on_false in
      let i = behind_one n in
      let tested = typed_fits-more signals hidden test front.0 in
      if_known (λ s. statement_fits S P s ≡ true) (is_constant test.node)
      (If' test _ (more_of-Stmt (freed n on_true) end_of-Stmt) _ (more_of-Stmt (freed (behind (widths on_true) n) on_false) end_of-Stmt))
      (both (keep n (truth test))
      (If' (whole 1 false n.signal) _ (more_of-Stmt (freed i on_true) end_of-Stmt) _ (more_of-Stmt (freed (behind (widths on_true) i) on_false) end_of-Stmt)))
      (λ is. let g = fitted-own S P n test 1 arms true is h in
      and_from (typed_fits S test && statement_fits S P (freed n on_true)) (statement_fits S P (freed (behind (widths on_true) n) on_false))
      (and_from (typed_fits S test) (statement_fits S P (freed n on_true)) tested
      (freed-fits signals hidden places more n on_true front.1 (fitted-left S P n (widths on_true) (widths on_false) g)))
      (freed-fits signals hidden places more (behind (widths on_true) n) on_false fit.1 (fitted-right S P n (widths on_true) (widths on_false) g)))
      (λ is. let g = fitted-own S P n test 1 arms false is h in
      let net = fitted-net S P n 1 arms g in
      let next : Fitted S P i arms = fitted-right S P n (1 ∷ []) arms g in
      both-fit S P (keep n (truth test))
      (If' (whole 1 false n.signal) _ (more_of-Stmt (freed i on_true) end_of-Stmt) _ (more_of-Stmt (freed (behind (widths on_true) i) on_false) end_of-Stmt))
      (keep-fits S P n (truth test) 1 arms g refl tested refl)
      (and_from (typed_fits S (whole 1 false n.signal) && statement_fits S P (freed i on_true)) (statement_fits S P (freed (behind (widths on_true) i) on_false))
      (and_from (typed_fits S (whole 1 false n.signal)) (statement_fits S P (freed i on_true)) (whole-fits S 1 false n.signal net.0 net.1 refl)
      (freed-fits signals hidden places more i on_true front.1 (fitted-left S P i (widths on_true) (widths on_false) next)))
      (freed-fits signals hidden places more (behind (widths on_true) i) on_false fit.1 (fitted-right S P i (widths on_true) (widths on_false) next))))
  freed-fits signals hidden places more n (Case' subject shape items _ (more_of-Stmt other end_of-Stmt) wild) fits h =
      let S = signals ++ hidden in
      let P = places ++ more in
      let fit = and_parts (typed_fits signals subject && items_fit signals places subject.width items) (statement_fits signals places other) fits in
      let front = and_parts (typed_fits signals subject) (items_fit signals places subject.width items) fit.0 in
      let e : Typed = kept_of subject in
      let arms = widths_in items ++ widths other in
      let i = behind_one n in
      let own : typed_fits signals e ≡ true = kept-fits signals subject.width subject.signed subject.node front.0 in
      if_known (λ s. statement_fits S P s ≡ true) (is_constant subject.node)
      (Case' subject shape (freed_in n items) _ (more_of-Stmt (freed (behind (widths_in items) n) other) end_of-Stmt) wild)
      (both (keep n e)
      (Case' (subject_of subject n.signal) shape (freed_in i items) _ (more_of-Stmt (freed (behind (widths_in items) i) other) end_of-Stmt) wild))
      (λ is. let g = fitted-own S P n subject e.width arms true is h in
      and_from (typed_fits S subject && items_fit S P subject.width (freed_in n items)) (statement_fits S P (freed (behind (widths_in items) n) other))
      (and_from (typed_fits S subject) (items_fit S P subject.width (freed_in n items)) (typed_fits-more signals hidden subject front.0)
      (freed_in-fits signals hidden places more n subject.width items front.1 (fitted-left S P n (widths_in items) (widths other) g)))
      (freed-fits signals hidden places more (behind (widths_in items) n) other fit.1 (fitted-right S P n (widths_in items) (widths other) g)))
      (λ is. let g = fitted-own S P n subject e.width arms false is h in
      let net = fitted-net S P n e.width arms g in
      let next : Fitted S P i arms = fitted-right S P n (e.width ∷ []) arms g in
      both-fit S P (keep n e)
      (Case' (subject_of subject n.signal) shape (freed_in i items) _ (more_of-Stmt (freed (behind (widths_in items) i) other) end_of-Stmt) wild)
      (keep-fits S P n e e.width arms g (node_fits-width signals e.width e.signed e.node own) (typed_fits-more signals hidden e own) refl)
      (and_from (typed_fits S (subject_of subject n.signal) && items_fit S P (subject_of subject n.signal).width (freed_in i items)) (statement_fits S P (freed (behind (widths_in items) i) other))
      (and_from (typed_fits S (subject_of subject n.signal)) (items_fit S P (subject_of subject n.signal).width (freed_in i items))
      (subject-fits signals S subject.width subject.signed subject.node n.signal front.0 net.0 net.1)
      (ap (λ w. items_fit S P w (freed_in i items)) (subject_width subject.width subject.signed subject.node n.signal)
      ∙ freed_in-fits signals hidden places more i subject.width items front.1 (fitted-left S P i (widths_in items) (widths other) next)))
      (freed-fits signals hidden places more (behind (widths_in items) i) other fit.1 (fitted-right S P i (widths_in items) (widths other) next))))
  freed-fits signals hidden places more n (Set place target e later) fits h = assignment_fits-more signals hidden places more target.parts e place fits

  pub freed_all-fits : {shape : _} (signals hidden : List Signal) (places more : List Place) (n : Next) (statements : Row_of-Stmt shape) → statements_fit signals places statements ≡ true
      → Fitted (signals ++ hidden) (places ++ more) n (widths_of statements) → statements_fit (signals ++ hidden) (places ++ more) (freed_all n statements) ≡ true
  freed_all-fits signals hidden places more n end_of-Stmt fits h = refl
  freed_all-fits signals hidden places more n (more_of-Stmt statement rest) fits h =
      let S = signals ++ hidden in
      let P = places ++ more in
      and_map (statement_fits signals places statement) (statements_fit signals places rest) (statement_fits S P (freed n statement)) (statements_fit S P (freed_all (behind (widths statement) n) rest))
      (λ fit. freed-fits signals hidden places more n statement fit (fitted-left S P n (widths statement) (widths_of rest) h))
      (λ fit. freed_all-fits signals hidden places more (behind (widths statement) n) rest fit (fitted-right S P n (widths statement) (widths_of rest) h)) fits

  pub freed_in-fits : {shape : _} (signals hidden : List Signal) (places more : List Place) (n : Next) (width : ℕ) (items : Row_of-CaseItem shape) → items_fit signals places width items ≡ true
      → Fitted (signals ++ hidden) (places ++ more) n (widths_in items) → items_fit (signals ++ hidden) (places ++ more) width (freed_in n items) ≡ true
  freed_in-fits signals hidden places more n width end_of-CaseItem fits h = refl
  freed_in-fits signals hidden places more n width (more_of-CaseItem labels body rest) fits h =
      let S = signals ++ hidden in
      let P = places ++ more in
      and_map (list_all (label_fits signals width) labels && statement_fits signals places body) (items_fit signals places width rest)
      (list_all (label_fits S width) labels && statement_fits S P (freed n body)) (items_fit S P width (freed_in (behind (widths body) n) rest))
      (and_map (list_all (label_fits signals width) labels) (statement_fits signals places body) (list_all (label_fits S width) labels) (statement_fits S P (freed n body))
      (labels_fit-more signals hidden width labels)
      (λ fit. freed-fits signals hidden places more n body fit (fitted-left S P n (widths body) (widths_in rest) h)))
      (λ fit. freed_in-fits signals hidden places more (behind (widths body) n) width rest fit (fitted-right S P n (widths body) (widths_in rest) h)) fits
