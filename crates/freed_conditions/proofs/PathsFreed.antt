-- A freed statement surely assigns the bits of a design's own signals that the statement does.
use Rattle.std.proofs.Common.{ℕ, zero, suc, ◌+◌, ◌^◌, ◌≡◌, ◌<◌, ◌≤◌, Bool, true, false, ◌&&◌, ◌||◌, List, [], ◌∷◌, ◌++◌, length, refl, ap, ◌∙◌, arith, Option, Some, None}
use Rattle.std.specs.Prelude.{ℤ, not, ◌==◌, nat_le, nat_lt, bit_or}
use Rattle.std.specs.Option.{option_map_or}
use Rattle.std.specs.List.{list_any, list_all}
use Rattle.std.proofs.lemmas.Bool.{and_parts}
use Rattle.loc_base.proofs.ShelfBools.{or-false}
use Rattle.loc_base.specs.Bits.{width_of, value_of}
use Rattle.design_core.specs.declared.signal.Signal.{Signal}
use Rattle.design_core.specs.declared.place.Place.{Place}
use Rattle.design_core.specs.declared.expression.Typed.{Typed}
use Rattle.design_core.specs.declared.expression.Node.{Node, end_of-Typed, more_of-Typed}
use Rattle.design_core.specs.declared.expression.Node.TheVariants as node
use Rattle.design_core.specs.declared.statement.Part.{Part}
use Rattle.design_core.specs.declared.statement.Part.TheVariants as part
use Rattle.design_core.specs.declared.statement.Label.{Label}
use Rattle.design_core.specs.declared.statement.Stmt.{Stmt, Row_of-Stmt, end_of-Stmt, more_of-Stmt, Row_of-CaseItem, end_of-CaseItem, more_of-CaseItem}
use Rattle.design_core.specs.declared.statement.Stmt.TheVariants.{Nothing, Block', If', Case', Set}
use Rattle.design_core.specs.Constant.{is_constant, constant_of, zeros}
use Rattle.design_core.specs.Valuation.{width_at}
use Rattle.design_core.specs.Operator.{integer_of}
use Rattle.design_core.specs.Pick.{has_bit, must_pick}
use Rattle.design_core.specs.FullCase.{all_below, deciding_bits, decided, constant_matches, some_matches, is_full}
use Rattle.design_core.specs.Reads.{part_assigns, is_nothing, on_all_paths, some_on_all_paths, all_on_all_paths, assigns_at_once, assigns}
use Rattle.design_core.specs.WellFormed.{is_signal, is_width, typed_fits, part_fits, label_fits, statement_fits, statements_fit, items_fit}
use Rattle.freed_conditions.specs.Kept.{Next, behind, behind_one, truth, from_kept, kept_of, subject_of, whole, keep}
use Rattle.freed_conditions.specs.Widths.{widths, widths_in}
use Rattle.freed_conditions.specs.Freed.{both, freed, freed_all, freed_in}
use Rattle.freed_conditions.proofs.SignalsMore.{signal-below, width_at-more}
use Rattle.freed_conditions.proofs.ValueAlike.{value-more}
use Rattle.freed_conditions.proofs.DrivesFreed.{if_both, or_alike, another, has_bit-more, set-parts, SameSets}

pub and_alike : (a b c d : Bool) → a ≡ b → c ≡ d → (a && c) ≡ (b && d)
and_alike a b c d one other = ap (λ x. x && c) one ∙ ap (λ x. b && x) other

-- an expression that a label compares
pub label-typed : (signals : List Signal) (width : ℕ) (label : Label) → label_fits signals width label ≡ true → typed_fits signals label.value ≡ true
label-typed signals width label fits =
    let front = and_parts (typed_fits signals label.value && label.value.width == width) (width_of label.wild == width) fits in
    (and_parts (typed_fits signals label.value) (label.value.width == width) front.0).0

-- ---- a case takes an item for each value where it did
all_below-same : (n : ℕ) (test test' : ℕ → Bool) → ((k : ℕ) → test' k ≡ test k) → all_below n test' ≡ all_below n test
unfolding all_below
all_below-same zero test test' same = refl
all_below-same (suc n) test test' same = and_alike (test' n) (test n) (all_below n test') (all_below n test) (same n) (all_below-same n test test' same)

deciding_bits-kept : (width : ℕ) (signed : Bool) (e : Node) (h : ℕ)
    → deciding_bits (from_kept width signed e h).width (from_kept width signed e h).node ≡ deciding_bits width e
deciding_bits-kept width signed (node.Resize' _ (more_of-Typed arg_width arg_signed arg end_of-Typed)) h = refl
deciding_bits-kept width signed _ h = refl

decided-kept : (width : ℕ) (signed : Bool) (e : Node) (h n : ℕ)
    → decided (from_kept width signed e h).width (from_kept width signed e h).node n ≡ decided width e n
decided-kept width signed (node.Resize' _ (more_of-Typed arg_width arg_signed arg end_of-Typed)) h n = refl
decided-kept width signed _ h n = refl

labels_match-more : (signals hidden : List Signal) (width subject : ℕ) (labels : List Label) → list_all (label_fits signals width) labels ≡ true
    → list_any (constant_matches (signals ++ hidden) subject) labels ≡ list_any (constant_matches signals subject) labels
labels_match-more signals hidden width subject [] fits = refl
labels_match-more signals hidden width subject (label ∷ labels) fits =
    let fit = and_parts (label_fits signals width label) (list_all (label_fits signals width) labels) fits in
    or_alike (constant_matches (signals ++ hidden) subject label) (constant_matches signals subject label)
    (list_any (constant_matches (signals ++ hidden) subject) labels) (list_any (constant_matches signals subject) labels)
    (ap (λ v. is_constant label.value.node && (bit_or subject (value_of label.wild) == bit_or v (value_of label.wild)))
    (value-more signals hidden zeros label.value (label-typed signals width label fit.0)))
    (labels_match-more signals hidden width subject labels fit.1)

some_matches-freed : {shape : _} (signals hidden : List Signal) (places : List Place) (n : Next) (width subject : ℕ) (items : Row_of-CaseItem shape)
    → items_fit signals places width items ≡ true → some_matches (signals ++ hidden) subject (freed_in n items) ≡ some_matches signals subject items
some_matches-freed signals hidden places n width subject end_of-CaseItem fits = refl
some_matches-freed signals hidden places n width subject (more_of-CaseItem labels body rest) fits =
    let fit = and_parts (list_all (label_fits signals width) labels && statement_fits signals places body) (items_fit signals places width rest) fits in
    let front = and_parts (list_all (label_fits signals width) labels) (statement_fits signals places body) fit.0 in
    or_alike (list_any (constant_matches (signals ++ hidden) subject) labels) (list_any (constant_matches signals subject) labels)
    (some_matches (signals ++ hidden) subject (freed_in (behind (widths body) n) rest)) (some_matches signals subject rest)
    (labels_match-more signals hidden width subject labels front.0)
    (some_matches-freed signals hidden places (behind (widths body) n) width subject rest fit.1)

-- where the same bits decide the two subjects, by the same numbers
full-alike : {shape : _} (signals hidden : List Signal) (places : List Place) (n : Next) (subject subject' : Typed) (items : Row_of-CaseItem shape)
    → deciding_bits subject'.width subject'.node ≡ deciding_bits subject.width subject.node
    → ((k : ℕ) → decided subject'.width subject'.node k ≡ decided subject.width subject.node k)
    → items_fit signals places subject.width items ≡ true → is_full (signals ++ hidden) subject' (freed_in n items) ≡ is_full signals subject items
full-alike signals hidden places n subject subject' items bits numbers fits =
    let test' : ℕ → Bool = λ k. some_matches (signals ++ hidden) (decided subject'.width subject'.node k) (freed_in n items) in
    let test : ℕ → Bool = λ k. some_matches signals (decided subject.width subject.node k) items in
    let same : (k : ℕ) → test' k ≡ test k =
    λ k. ap (λ v. some_matches (signals ++ hidden) v (freed_in n items)) (numbers k)
    ∙ some_matches-freed signals hidden places n subject.width (decided subject.width subject.node k) items fits in
    let count : ℕ = deciding_bits subject.width subject.node in
    ap (λ c. nat_le c 8 && all_below (2 ^ c) test') bits ∙ ap (λ x. nat_le count 8 && x) (all_below-same (2 ^ count) test test' same)

is_nothing-freed : (n : Next) (statement : Stmt) → is_nothing (freed n statement) ≡ is_nothing statement
is_nothing-freed n Nothing = refl
is_nothing-freed n (Block' _ statements) = refl
is_nothing-freed n (If' e _ (more_of-Stmt on_true end_of-Stmt) _ (more_of-Stmt on_false end_of-Stmt)) =
    if_both (λ s. is_nothing s ≡ false) (is_constant e.node)
    (If' e _ (more_of-Stmt (freed n on_true) end_of-Stmt) _ (more_of-Stmt (freed (behind (widths on_true) n) on_false) end_of-Stmt))
    (both (keep n (truth e))
    (If' (whole 1 false n.signal) _ (more_of-Stmt (freed (behind_one n) on_true) end_of-Stmt)
    _ (more_of-Stmt (freed (behind (widths on_true) (behind_one n)) on_false) end_of-Stmt)))
    refl refl
is_nothing-freed n (Case' subject shape items _ (more_of-Stmt other end_of-Stmt) wild) =
    if_both (λ s. is_nothing s ≡ false) (is_constant subject.node)
    (Case' subject shape (freed_in n items) _ (more_of-Stmt (freed (behind (widths_in items) n) other) end_of-Stmt) wild)
    (both (keep n (kept_of subject))
    (Case' (subject_of subject n.signal) shape (freed_in (behind_one n) items)
    _ (more_of-Stmt (freed (behind (widths_in items) (behind_one n)) other) end_of-Stmt) wild))
    refl refl
is_nothing-freed n (Set place target e later) = refl

-- ---- each path of a freed statement has an assignment that passes a test where each path of the statement has one
paths-kept : (signals more : List Signal) (test test' : List Part → Bool → Bool) → SameSets signals test test' → (n : Next) (e : Typed) (s : Stmt) → length signals ≤ n.signal
    → on_all_paths more test' (both (keep n e) s) ≡ on_all_paths more test' s
paths-kept signals more test test' same n e s above =
    ap (λ x. x || (on_all_paths more test' s || false)) (same.kept n.signal above) ∙ or-false (on_all_paths more test' s)

-- a case by its items, and by what it does for other values
case-alike : (items items' none none' full full' other other' : Bool) → items' ≡ items → none' ≡ none → full' ≡ full → other' ≡ other
    → (items' && ((none' && full') || other')) ≡ (items && ((none && full) || other))
case-alike items items' none none' full full' other other' one two three four =
    and_alike items' items ((none' && full') || other') ((none && full) || other) one
    (or_alike (none' && full') (none && full) other' other (and_alike none' none full' full two three) four)

mutual
  pub paths-freed : (signals hidden : List Signal) (places : List Place) (test test' : List Part → Bool → Bool) → SameSets signals test test'
      → (n : Next) (statement : Stmt) → statement_fits signals places statement ≡ true → length signals ≤ n.signal
      → on_all_paths (signals ++ hidden) test' (freed n statement) ≡ on_all_paths signals test statement
  paths-freed signals hidden places test test' same n Nothing fits above = refl
  paths-freed signals hidden places test test' same n (Block' _ statements) fits above = paths_of-freed signals hidden places test test' same n statements fits above
  paths-freed signals hidden places test test' same n (If' e _ (more_of-Stmt on_true end_of-Stmt) _ (more_of-Stmt on_false end_of-Stmt)) fits above =
      let fit = and_parts (typed_fits signals e && statement_fits signals places on_true) (statement_fits signals places on_false) fits in
      let front = and_parts (typed_fits signals e) (statement_fits signals places on_true) fit.0 in
      let i = behind_one n in
      let more : List Signal = signals ++ hidden in
      if_both (λ s. on_all_paths more test' s ≡ (on_all_paths signals test on_true && on_all_paths signals test on_false)) (is_constant e.node)
      (If' e _ (more_of-Stmt (freed n on_true) end_of-Stmt) _ (more_of-Stmt (freed (behind (widths on_true) n) on_false) end_of-Stmt))
      (both (keep n (truth e))
      (If' (whole 1 false n.signal) _ (more_of-Stmt (freed i on_true) end_of-Stmt) _ (more_of-Stmt (freed (behind (widths on_true) i) on_false) end_of-Stmt)))
      (and_alike (on_all_paths more test' (freed n on_true)) (on_all_paths signals test on_true)
      (on_all_paths more test' (freed (behind (widths on_true) n) on_false)) (on_all_paths signals test on_false)
      (paths-freed signals hidden places test test' same n on_true front.1 above)
      (paths-freed signals hidden places test test' same (behind (widths on_true) n) on_false fit.1 (omega arith)))
      (paths-kept signals more test test' same n (truth e)
      (If' (whole 1 false n.signal) _ (more_of-Stmt (freed i on_true) end_of-Stmt) _ (more_of-Stmt (freed (behind (widths on_true) i) on_false) end_of-Stmt)) above
      ∙ and_alike (on_all_paths more test' (freed i on_true)) (on_all_paths signals test on_true)
      (on_all_paths more test' (freed (behind (widths on_true) i) on_false)) (on_all_paths signals test on_false)
      (paths-freed signals hidden places test test' same i on_true front.1 (omega arith))
      (paths-freed signals hidden places test test' same (behind (widths on_true) i) on_false fit.1 (omega arith)))
  paths-freed signals hidden places test test' same n (Case' subject shape items _ (more_of-Stmt other end_of-Stmt) wild) fits above =
      let fit = and_parts (typed_fits signals subject && items_fit signals places subject.width items) (statement_fits signals places other) fits in
      let front = and_parts (typed_fits signals subject) (items_fit signals places subject.width items) fit.0 in
      let i = behind_one n in
      let more : List Signal = signals ++ hidden in
      let held : Typed = subject_of subject n.signal in
      if_both (λ s. on_all_paths more test' s
      ≡ (all_on_all_paths signals test items && ((is_nothing other && is_full signals subject items) || on_all_paths signals test other))) (is_constant subject.node)
      (Case' subject shape (freed_in n items) _ (more_of-Stmt (freed (behind (widths_in items) n) other) end_of-Stmt) wild)
      (both (keep n (kept_of subject))
      (Case' held shape (freed_in i items) _ (more_of-Stmt (freed (behind (widths_in items) i) other) end_of-Stmt) wild))
      (case-alike (all_on_all_paths signals test items) (all_on_all_paths more test' (freed_in n items)) (is_nothing other) (is_nothing (freed (behind (widths_in items) n) other))
      (is_full signals subject items) (is_full more subject (freed_in n items)) (on_all_paths signals test other) (on_all_paths more test' (freed (behind (widths_in items) n) other))
      (paths_in-freed signals hidden places test test' same n subject.width items front.1 above)
      (is_nothing-freed (behind (widths_in items) n) other)
      (full-alike signals hidden places n subject subject items refl (λ k. refl) front.1)
      (paths-freed signals hidden places test test' same (behind (widths_in items) n) other fit.1 (omega arith)))
      (paths-kept signals more test test' same n (kept_of subject)
      (Case' held shape (freed_in i items) _ (more_of-Stmt (freed (behind (widths_in items) i) other) end_of-Stmt) wild) above
      ∙ case-alike (all_on_all_paths signals test items) (all_on_all_paths more test' (freed_in i items)) (is_nothing other) (is_nothing (freed (behind (widths_in items) i) other))
      (is_full signals subject items) (is_full more held (freed_in i items)) (on_all_paths signals test other) (on_all_paths more test' (freed (behind (widths_in items) i) other))
      (paths_in-freed signals hidden places test test' same i subject.width items front.1 (omega arith))
      (is_nothing-freed (behind (widths_in items) i) other)
      (full-alike signals hidden places i subject held items (deciding_bits-kept subject.width subject.signed subject.node n.signal)
      (λ k. decided-kept subject.width subject.signed subject.node n.signal k) front.1)
      (paths-freed signals hidden places test test' same (behind (widths_in items) i) other fit.1 (omega arith)))
  paths-freed signals hidden places test test' same n (Set place target e later) fits above = same.own target.parts later (set-parts signals places place target.parts e fits)

  pub paths_of-freed : {shape : _} (signals hidden : List Signal) (places : List Place) (test test' : List Part → Bool → Bool) → SameSets signals test test'
      → (n : Next) (statements : Row_of-Stmt shape) → statements_fit signals places statements ≡ true → length signals ≤ n.signal
      → some_on_all_paths (signals ++ hidden) test' (freed_all n statements) ≡ some_on_all_paths signals test statements
  paths_of-freed signals hidden places test test' same n end_of-Stmt fits above = refl
  paths_of-freed signals hidden places test test' same n (more_of-Stmt statement rest) fits above =
      let fit = and_parts (statement_fits signals places statement) (statements_fit signals places rest) fits in
      or_alike (on_all_paths (signals ++ hidden) test' (freed n statement)) (on_all_paths signals test statement)
      (some_on_all_paths (signals ++ hidden) test' (freed_all (behind (widths statement) n) rest)) (some_on_all_paths signals test rest)
      (paths-freed signals hidden places test test' same n statement fit.0 above)
      (paths_of-freed signals hidden places test test' same (behind (widths statement) n) rest fit.1 (omega arith))

  pub paths_in-freed : {shape : _} (signals hidden : List Signal) (places : List Place) (test test' : List Part → Bool → Bool) → SameSets signals test test'
      → (n : Next) (width : ℕ) (items : Row_of-CaseItem shape) → items_fit signals places width items ≡ true → length signals ≤ n.signal
      → all_on_all_paths (signals ++ hidden) test' (freed_in n items) ≡ all_on_all_paths signals test items
  paths_in-freed signals hidden places test test' same n width end_of-CaseItem fits above = refl
  paths_in-freed signals hidden places test test' same n width (more_of-CaseItem labels body rest) fits above =
      let fit = and_parts (list_all (label_fits signals width) labels && statement_fits signals places body) (items_fit signals places width rest) fits in
      let front = and_parts (list_all (label_fits signals width) labels) (statement_fits signals places body) fit.0 in
      and_alike (on_all_paths (signals ++ hidden) test' (freed n body)) (on_all_paths signals test body)
      (all_on_all_paths (signals ++ hidden) test' (freed_in (behind (widths body) n) rest)) (all_on_all_paths signals test rest)
      (paths-freed signals hidden places test test' same n body front.1 above)
      (paths_in-freed signals hidden places test test' same (behind (widths body) n) width rest fit.1 (omega arith))

-- ---- the bits that an assignment surely assigns
must_pick-more : (signals hidden : List Signal) (signal index_width : ℕ) (signed : Bool) (index : Node) (offsets : List ℤ) (b : ℕ) → signal < length signals
    → must_pick (signals ++ hidden) signal index_width signed index offsets b ≡ must_pick signals signal index_width signed index offsets b
must_pick-more signals hidden signal index_width signed index offsets b below = at (constant_of index_width index)
  where
    at : (o : Option ℕ)
        → option_map_or (λ value. has_bit (signals ++ hidden) signal (integer_of signed index_width value) offsets b) o false
        ≡ option_map_or (λ value. has_bit signals signal (integer_of signed index_width value) offsets b) o false
    at None = refl
    at (Some value) = has_bit-more signals hidden signal (integer_of signed index_width value) offsets b below

part_assigns-more : (signals hidden : List Signal) (s b : ℕ) (p : Part) → part_fits signals p ≡ true → part_assigns (signals ++ hidden) s b p ≡ part_assigns signals s b p
part_assigns-more signals hidden s b (part.Whole signal) fits = ap (λ w. s == signal && nat_lt b w) (width_at-more signals hidden signal (signal-below signals signal fits))
part_assigns-more signals hidden s b (part.Slice signal from width) fits = refl
part_assigns-more signals hidden s b (part.Pick signal index offsets) fits =
    let fit = and_parts (is_signal signals signal && is_width (length offsets)) (typed_fits signals index) fits in
    let own : signal < length signals = signal-below signals signal (and_parts (is_signal signals signal) (is_width (length offsets)) fit.0).0 in
    ap (λ x. s == signal && x) (must_pick-more signals hidden signal index.width index.signed index.node offsets b own)
part_assigns-more signals hidden s b (part.Word _ _ _ _ _ _) fits = refl

parts_assign-more : (signals hidden : List Signal) (s b : ℕ) (parts : List Part) → list_all (part_fits signals) parts ≡ true
    → list_any (part_assigns (signals ++ hidden) s b) parts ≡ list_any (part_assigns signals s b) parts
parts_assign-more signals hidden s b [] fits = refl
parts_assign-more signals hidden s b (p ∷ parts) fits =
    let fit = and_parts (part_fits signals p) (list_all (part_fits signals) parts) fits in
    or_alike (part_assigns (signals ++ hidden) s b p) (part_assigns signals s b p)
    (list_any (part_assigns (signals ++ hidden) s b) parts) (list_any (part_assigns signals s b) parts)
    (part_assigns-more signals hidden s b p fit.0) (parts_assign-more signals hidden s b parts fit.1)

pub net-assigns : (signals : List Signal) (s b h : ℕ) → (s ≡ h → ⊥) → assigns_at_once signals s b (part.Whole h ∷ []) false ≡ false
net-assigns signals s b h other = ap (λ x. x || false) (another s h (nat_lt b (width_at signals h)) other)

pub assigns-freed : (signals hidden : List Signal) (places : List Place) (n : Next) (statement : Stmt) (s b : ℕ) → statement_fits signals places statement ≡ true
    → length signals ≤ n.signal → s < length signals → assigns (signals ++ hidden) s b (freed n statement) ≡ assigns signals s b statement
assigns-freed signals hidden places n statement s b fits above below =
    paths-freed signals hidden places (assigns_at_once signals s b) (assigns_at_once (signals ++ hidden) s b)
    (record {
      own = λ parts later fit. ap (λ x. not later && x) (parts_assign-more signals hidden s b parts fit);
      kept = λ h high. net-assigns (signals ++ hidden) s b h (λ here. absurd (omega arith));
    }) n statement fits above
