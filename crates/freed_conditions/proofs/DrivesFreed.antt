-- A freed statement assigns the bits of a design's own signals that the statement assigns, and a statement assigns no others.
use Rattle.std.proofs.Common.{ℕ, ◌+◌, ◌≡◌, ◌<◌, ◌≤◌, Bool, true, false, ◌&&◌, ◌||◌, List, [], ◌∷◌, ◌++◌, length, refl, ap, ◌∙◌, arith, Option, Some, None}
use Rattle.std.specs.Prelude.{ℤ, ◌+ℤ◌, ◌==◌, nat_le, nat_lt, if◌then◌else◌}
use Rattle.std.specs.Option.{option_map_or}
use Rattle.std.specs.List.{list_any, list_all}
use Rattle.std.proofs.lemmas.Bool.{and_parts, and_left, and_right, ne_eqb, le-ltb}
use Rattle.loc_base.proofs.ShelfBools.{or-false}
use Rattle.design_core.specs.declared.signal.Signal.{Signal}
use Rattle.design_core.specs.declared.place.Place.{Place}
use Rattle.design_core.specs.declared.expression.Typed.{Typed}
use Rattle.design_core.specs.declared.expression.Node.{Node}
use Rattle.design_core.specs.declared.statement.Part.{Part}
use Rattle.design_core.specs.declared.statement.Part.TheVariants.{Whole, Slice, Pick, Word}
use Rattle.design_core.specs.declared.statement.Stmt.{Stmt, Row_of-Stmt, end_of-Stmt, more_of-Stmt, Row_of-CaseItem, end_of-CaseItem, more_of-CaseItem}
use Rattle.design_core.specs.declared.statement.Stmt.TheVariants.{Nothing, Block', If', Case', Set}
use Rattle.design_core.specs.Constant.{is_constant, constant_of}
use Rattle.design_core.specs.Valuation.{width_at, position_at}
use Rattle.design_core.specs.Operator.{integer_of}
use Rattle.design_core.specs.Pick.{is_at, has_bit, may_pick}
use Rattle.design_core.specs.Store.{parts_width}
use Rattle.design_core.specs.Drives.{is_among, part_drives, part_names, some_set, some_set_of, some_set_in, statement_drives, assigns_later}
use Rattle.design_core.specs.WellFormed.{is_signal, is_width, words_fit, typed_fits, part_fits, label_fits, place_fits, assignment_fits, statement_fits, statements_fit, items_fit}
use Rattle.freed_conditions.specs.Kept.{Next, behind, behind_one, truth, kept_of, subject_of, whole, keep}
use Rattle.freed_conditions.specs.Widths.{widths, widths_in}
use Rattle.freed_conditions.specs.Freed.{both, freed, freed_all, freed_in}
use Rattle.freed_conditions.proofs.SignalsMore.{signal-below, width_at-more, position_at-more}
use Rattle.freed_conditions.proofs.ValueAlike.{slice-below, words-below}

pub if_both : {X : Type 0} (P : X → Type 0) (t : Bool) (x y : X) → P x → P y → P (if t then x else y)
if_both P true x y one other = one
if_both P false x y one other = other

pub or_alike : (a b c d : Bool) → a ≡ b → c ≡ d → (a || c) ≡ (b || d)
or_alike a b c d one other = ap (λ x. x || c) one ∙ ap (λ x. b || x) other

-- the left side of an assignment that fits
pub set-parts : (signals : List Signal) (places : List Place) (place : ℕ) (parts : List Part) (e : Typed)
    → (assignment_fits signals parts e && place_fits places (parts_width signals parts) place) ≡ true → list_all (part_fits signals) parts ≡ true
set-parts signals places place parts e fits =
    let fit = and_parts (assignment_fits signals parts e) (place_fits places (parts_width signals parts) place) fits in
    let front = and_parts (list_all (part_fits signals) parts && is_width (parts_width signals parts) && typed_fits signals e) (nat_le (parts_width signals parts) e.width) fit.0 in
    let more = and_parts (list_all (part_fits signals) parts && is_width (parts_width signals parts)) (typed_fits signals e) front.0 in
    (and_parts (list_all (part_fits signals) parts) (is_width (parts_width signals parts)) more.0).0

-- ---- some assignment of a freed statement passes a test where one of the statement passes another
pub record SameSets (signals : List Signal) (test test' : List Part → Bool → Bool) : Type 0 where
  -- both tests answer alike for a left side of the design's signals
  pub own : (parts : List Part) (later : Bool) → list_all (part_fits signals) parts ≡ true → test' parts later ≡ test parts later
  -- what keeps a condition doesn't pass
  pub kept : (h : ℕ) → length signals ≤ h → test' (Whole h ∷ []) false ≡ false

-- what keeps a condition, and the statement behind it
sets-kept : (signals : List Signal) (test test' : List Part → Bool → Bool) → SameSets signals test test' → (n : Next) (e : Typed) (s : Stmt) → length signals ≤ n.signal
    → some_set test' (both (keep n e) s) ≡ some_set test' s
sets-kept signals test test' same n e s above = ap (λ x. x || (some_set test' s || false)) (same.kept n.signal above) ∙ or-false (some_set test' s)

mutual
  pub sets-freed : (signals : List Signal) (places : List Place) (test test' : List Part → Bool → Bool) → SameSets signals test test'
      → (n : Next) (statement : Stmt) → statement_fits signals places statement ≡ true → length signals ≤ n.signal
      → some_set test' (freed n statement) ≡ some_set test statement
  sets-freed signals places test test' same n Nothing fits above = refl
  sets-freed signals places test test' same n (Block' _ statements) fits above = sets_of-freed signals places test test' same n statements fits above
  sets-freed signals places test test' same n (If' e _ (more_of-Stmt on_true end_of-Stmt) _ (more_of-Stmt on_false end_of-Stmt)) fits above =
      let fit = and_parts (typed_fits signals e && statement_fits signals places on_true) (statement_fits signals places on_false) fits in
      let front = and_parts (typed_fits signals e) (statement_fits signals places on_true) fit.0 in
      let i = behind_one n in
      if_both (λ s. some_set test' s ≡ (some_set test on_true || some_set test on_false)) (is_constant e.node)
      (If' e _ (more_of-Stmt (freed n on_true) end_of-Stmt) _ (more_of-Stmt (freed (behind (widths on_true) n) on_false) end_of-Stmt))
      (both (keep n (truth e))
      (If' (whole 1 false n.signal) _ (more_of-Stmt (freed i on_true) end_of-Stmt) _ (more_of-Stmt (freed (behind (widths on_true) i) on_false) end_of-Stmt)))
      (or_alike (some_set test' (freed n on_true)) (some_set test on_true) (some_set test' (freed (behind (widths on_true) n) on_false)) (some_set test on_false)
      (sets-freed signals places test test' same n on_true front.1 above)
      (sets-freed signals places test test' same (behind (widths on_true) n) on_false fit.1 (omega arith)))
      (sets-kept signals test test' same n (truth e)
      (If' (whole 1 false n.signal) _ (more_of-Stmt (freed i on_true) end_of-Stmt) _ (more_of-Stmt (freed (behind (widths on_true) i) on_false) end_of-Stmt)) above
      ∙ or_alike (some_set test' (freed i on_true)) (some_set test on_true) (some_set test' (freed (behind (widths on_true) i) on_false)) (some_set test on_false)
      (sets-freed signals places test test' same i on_true front.1 (omega arith))
      (sets-freed signals places test test' same (behind (widths on_true) i) on_false fit.1 (omega arith)))
  sets-freed signals places test test' same n (Case' subject shape items _ (more_of-Stmt other end_of-Stmt) wild) fits above =
      let fit = and_parts (typed_fits signals subject && items_fit signals places subject.width items) (statement_fits signals places other) fits in
      let front = and_parts (typed_fits signals subject) (items_fit signals places subject.width items) fit.0 in
      let i = behind_one n in
      if_both (λ s. some_set test' s ≡ (some_set_in test items || some_set test other)) (is_constant subject.node)
      (Case' subject shape (freed_in n items) _ (more_of-Stmt (freed (behind (widths_in items) n) other) end_of-Stmt) wild)
      (both (keep n (kept_of subject))
      (Case' (subject_of subject n.signal) shape (freed_in i items) _ (more_of-Stmt (freed (behind (widths_in items) i) other) end_of-Stmt) wild))
      (or_alike (some_set_in test' (freed_in n items)) (some_set_in test items) (some_set test' (freed (behind (widths_in items) n) other)) (some_set test other)
      (sets_in-freed signals places test test' same n subject.width items front.1 above)
      (sets-freed signals places test test' same (behind (widths_in items) n) other fit.1 (omega arith)))
      (sets-kept signals test test' same n (kept_of subject)
      (Case' (subject_of subject n.signal) shape (freed_in i items) _ (more_of-Stmt (freed (behind (widths_in items) i) other) end_of-Stmt) wild) above
      ∙ or_alike (some_set_in test' (freed_in i items)) (some_set_in test items) (some_set test' (freed (behind (widths_in items) i) other)) (some_set test other)
      (sets_in-freed signals places test test' same i subject.width items front.1 (omega arith))
      (sets-freed signals places test test' same (behind (widths_in items) i) other fit.1 (omega arith)))
  sets-freed signals places test test' same n (Set place target e later) fits above = same.own target.parts later (set-parts signals places place target.parts e fits)

  pub sets_of-freed : {shape : _} (signals : List Signal) (places : List Place) (test test' : List Part → Bool → Bool) → SameSets signals test test'
      → (n : Next) (statements : Row_of-Stmt shape) → statements_fit signals places statements ≡ true → length signals ≤ n.signal
      → some_set_of test' (freed_all n statements) ≡ some_set_of test statements
  sets_of-freed signals places test test' same n end_of-Stmt fits above = refl
  sets_of-freed signals places test test' same n (more_of-Stmt statement rest) fits above =
      let fit = and_parts (statement_fits signals places statement) (statements_fit signals places rest) fits in
      or_alike (some_set test' (freed n statement)) (some_set test statement) (some_set_of test' (freed_all (behind (widths statement) n) rest)) (some_set_of test rest)
      (sets-freed signals places test test' same n statement fit.0 above)
      (sets_of-freed signals places test test' same (behind (widths statement) n) rest fit.1 (omega arith))

  pub sets_in-freed : {shape : _} (signals : List Signal) (places : List Place) (test test' : List Part → Bool → Bool) → SameSets signals test test'
      → (n : Next) (width : ℕ) (items : Row_of-CaseItem shape) → items_fit signals places width items ≡ true → length signals ≤ n.signal
      → some_set_in test' (freed_in n items) ≡ some_set_in test items
  sets_in-freed signals places test test' same n width end_of-CaseItem fits above = refl
  sets_in-freed signals places test test' same n width (more_of-CaseItem labels body rest) fits above =
      let fit = and_parts (list_all (label_fits signals width) labels && statement_fits signals places body) (items_fit signals places width rest) fits in
      let front = and_parts (list_all (label_fits signals width) labels) (statement_fits signals places body) fit.0 in
      or_alike (some_set test' (freed n body)) (some_set test body) (some_set_in test' (freed_in (behind (widths body) n) rest)) (some_set_in test rest)
      (sets-freed signals places test test' same n body front.1 above)
      (sets_in-freed signals places test test' same (behind (widths body) n) width rest fit.1 (omega arith))

-- ---- no assignment of a statement passes a test that no left side of the design's signals passes
mutual
  pub sets-none : (signals : List Signal) (places : List Place) (test : List Part → Bool → Bool)
      → ((parts : List Part) (later : Bool) → list_all (part_fits signals) parts ≡ true → test parts later ≡ false)
      → (statement : Stmt) → statement_fits signals places statement ≡ true → some_set test statement ≡ false
  sets-none signals places test none Nothing fits = refl
  sets-none signals places test none (Block' _ statements) fits = sets_of-none signals places test none statements fits
  sets-none signals places test none (If' e _ (more_of-Stmt on_true end_of-Stmt) _ (more_of-Stmt on_false end_of-Stmt)) fits =
      let fit = and_parts (typed_fits signals e && statement_fits signals places on_true) (statement_fits signals places on_false) fits in
      let front = and_parts (typed_fits signals e) (statement_fits signals places on_true) fit.0 in
      or_alike (some_set test on_true) false (some_set test on_false) false (sets-none signals places test none on_true front.1) (sets-none signals places test none on_false fit.1)
  sets-none signals places test none (Case' subject _ items _ (more_of-Stmt other end_of-Stmt) _) fits =
      let fit = and_parts (typed_fits signals subject && items_fit signals places subject.width items) (statement_fits signals places other) fits in
      let front = and_parts (typed_fits signals subject) (items_fit signals places subject.width items) fit.0 in
      or_alike (some_set_in test items) false (some_set test other) false (sets_in-none signals places test none subject.width items front.1) (sets-none signals places test none other fit.1)
  sets-none signals places test none (Set place target e later) fits = none target.parts later (set-parts signals places place target.parts e fits)

  pub sets_of-none : {shape : _} (signals : List Signal) (places : List Place) (test : List Part → Bool → Bool)
      → ((parts : List Part) (later : Bool) → list_all (part_fits signals) parts ≡ true → test parts later ≡ false)
      → (statements : Row_of-Stmt shape) → statements_fit signals places statements ≡ true → some_set_of test statements ≡ false
  sets_of-none signals places test none end_of-Stmt fits = refl
  sets_of-none signals places test none (more_of-Stmt statement rest) fits =
      let fit = and_parts (statement_fits signals places statement) (statements_fit signals places rest) fits in
      or_alike (some_set test statement) false (some_set_of test rest) false (sets-none signals places test none statement fit.0) (sets_of-none signals places test none rest fit.1)

  pub sets_in-none : {shape : _} (signals : List Signal) (places : List Place) (test : List Part → Bool → Bool)
      → ((parts : List Part) (later : Bool) → list_all (part_fits signals) parts ≡ true → test parts later ≡ false)
      → (width : ℕ) (items : Row_of-CaseItem shape) → items_fit signals places width items ≡ true → some_set_in test items ≡ false
  sets_in-none signals places test none width end_of-CaseItem fits = refl
  sets_in-none signals places test none width (more_of-CaseItem labels body rest) fits =
      let fit = and_parts (list_all (label_fits signals width) labels && statement_fits signals places body) (items_fit signals places width rest) fits in
      let front = and_parts (list_all (label_fits signals width) labels) (statement_fits signals places body) fit.0 in
      or_alike (some_set test body) false (some_set_in test rest) false (sets-none signals places test none body front.1) (sets_in-none signals places test none width rest fit.1)

-- ---- the bits that a left side drives
pub has_bit-more : (signals hidden : List Signal) (signal : ℕ) (index : ℤ) (offsets : List ℤ) (b : ℕ) → signal < length signals
    → has_bit (signals ++ hidden) signal index offsets b ≡ has_bit signals signal index offsets b
has_bit-more signals hidden signal index [] b below = refl
has_bit-more signals hidden signal index (offset ∷ offsets) b below =
    or_alike (is_at b (position_at (signals ++ hidden) signal (index +ℤ offset))) (is_at b (position_at signals signal (index +ℤ offset)))
    (has_bit (signals ++ hidden) signal index offsets b) (has_bit signals signal index offsets b)
    (ap (is_at b) (position_at-more signals hidden signal (index +ℤ offset) below)) (has_bit-more signals hidden signal index offsets b below)

pub may_pick-more : (signals hidden : List Signal) (signal index_width : ℕ) (signed : Bool) (index : Node) (offsets : List ℤ) (b : ℕ) → signal < length signals
    → may_pick (signals ++ hidden) signal index_width signed index offsets b ≡ may_pick signals signal index_width signed index offsets b
may_pick-more signals hidden signal index_width signed index offsets b below = at (constant_of index_width index)
  where
    at : (o : Option ℕ)
        → option_map_or (λ value. has_bit (signals ++ hidden) signal (integer_of signed index_width value) offsets b) o (nat_lt b (width_at (signals ++ hidden) signal))
        ≡ option_map_or (λ value. has_bit signals signal (integer_of signed index_width value) offsets b) o (nat_lt b (width_at signals signal))
    at None = ap (nat_lt b) (width_at-more signals hidden signal below)
    at (Some value) = has_bit-more signals hidden signal (integer_of signed index_width value) offsets b below

part_drives-more : (signals hidden : List Signal) (s b : ℕ) (part : Part) → s < length signals → part_fits signals part ≡ true
    → part_drives (signals ++ hidden) s b part ≡ part_drives signals s b part
part_drives-more signals hidden s b (Whole signal) below fits = ap (λ w. s == signal && nat_lt b w) (width_at-more signals hidden signal (signal-below signals signal fits))
part_drives-more signals hidden s b (Slice signal from width) below fits = refl
part_drives-more signals hidden s b (Pick signal index offsets) below fits =
    let fit = and_parts (is_signal signals signal && is_width (length offsets)) (typed_fits signals index) fits in
    let own : signal < length signals = signal-below signals signal (and_parts (is_signal signals signal) (is_width (length offsets)) fit.0).0 in
    ap (λ x. s == signal && x) (may_pick-more signals hidden signal index.width index.signed index.node offsets b own)
part_drives-more signals hidden s b (Word first count _ _ _ _) below fits = ap (λ w. is_among first count s && nat_lt b w) (width_at-more signals hidden s below)

pub parts_drive-more : (signals hidden : List Signal) (s b : ℕ) (parts : List Part) → s < length signals → list_all (part_fits signals) parts ≡ true
    → list_any (part_drives (signals ++ hidden) s b) parts ≡ list_any (part_drives signals s b) parts
parts_drive-more signals hidden s b [] below fits = refl
parts_drive-more signals hidden s b (part ∷ parts) below fits =
    let fit = and_parts (part_fits signals part) (list_all (part_fits signals) parts) fits in
    or_alike (part_drives (signals ++ hidden) s b part) (part_drives signals s b part)
    (list_any (part_drives (signals ++ hidden) s b) parts) (list_any (part_drives signals s b) parts)
    (part_drives-more signals hidden s b part below fit.0) (parts_drive-more signals hidden s b parts below fit.1)

-- none of another signal
pub another : (s signal : ℕ) (rest : Bool) → (s ≡ signal → ⊥) → (s == signal && rest) ≡ false
another s signal rest other = and_left (s == signal) rest (ne_eqb s signal other)

part_drives-outside : (signals : List Signal) (s b : ℕ) (part : Part) → length signals ≤ s → part_fits signals part ≡ true → part_drives signals s b part ≡ false
part_drives-outside signals s b (Whole signal) above fits =
    let own : signal < length signals = signal-below signals signal fits in
    another s signal (nat_lt b (width_at signals signal)) (λ here. absurd (omega arith))
part_drives-outside signals s b (Slice signal from width) above fits =
    let own : signal < length signals = slice-below signals signal from width fits in
    another s signal (is_among from width b) (λ here. absurd (omega arith))
part_drives-outside signals s b (Pick signal index offsets) above fits =
    let fit = and_parts (is_signal signals signal && is_width (length offsets)) (typed_fits signals index) fits in
    let own : signal < length signals = signal-below signals signal (and_parts (is_signal signals signal) (is_width (length offsets)) fit.0).0 in
    another s signal (may_pick signals signal index.width index.signed index.node offsets b) (λ here. absurd (omega arith))
part_drives-outside signals s b (Word first count low index from width) above fits =
    let within : first + count ≤ length signals = words-below signals first count from width (and_parts (words_fit signals first count from width) (typed_fits signals index) fits).0 in
    and_left (is_among first count s) (nat_lt b (width_at signals s))
    (and_right (nat_le first s) (nat_lt s (first + count)) (le-ltb s (first + count) (omega arith)))

pub parts_drive-outside : (signals : List Signal) (s b : ℕ) (parts : List Part) → length signals ≤ s → list_all (part_fits signals) parts ≡ true
    → list_any (part_drives signals s b) parts ≡ false
parts_drive-outside signals s b [] above fits = refl
parts_drive-outside signals s b (part ∷ parts) above fits =
    let fit = and_parts (part_fits signals part) (list_all (part_fits signals) parts) fits in
    or_alike (part_drives signals s b part) false (list_any (part_drives signals s b) parts) false
    (part_drives-outside signals s b part above fit.0) (parts_drive-outside signals s b parts above fit.1)

-- a left side of the design's signals drives none of those behind them
part_drives-hidden : (signals hidden : List Signal) (s b : ℕ) (part : Part) → length signals ≤ s → part_fits signals part ≡ true
    → part_drives (signals ++ hidden) s b part ≡ false
part_drives-hidden signals hidden s b (Whole signal) above fits =
    let own : signal < length signals = signal-below signals signal fits in
    another s signal (nat_lt b (width_at (signals ++ hidden) signal)) (λ here. absurd (omega arith))
part_drives-hidden signals hidden s b (Slice signal from width) above fits =
    let own : signal < length signals = slice-below signals signal from width fits in
    another s signal (is_among from width b) (λ here. absurd (omega arith))
part_drives-hidden signals hidden s b (Pick signal index offsets) above fits =
    let fit = and_parts (is_signal signals signal && is_width (length offsets)) (typed_fits signals index) fits in
    let own : signal < length signals = signal-below signals signal (and_parts (is_signal signals signal) (is_width (length offsets)) fit.0).0 in
    another s signal (may_pick (signals ++ hidden) signal index.width index.signed index.node offsets b) (λ here. absurd (omega arith))
part_drives-hidden signals hidden s b (Word first count low index from width) above fits =
    let within : first + count ≤ length signals = words-below signals first count from width (and_parts (words_fit signals first count from width) (typed_fits signals index) fits).0 in
    and_left (is_among first count s) (nat_lt b (width_at (signals ++ hidden) s))
    (and_right (nat_le first s) (nat_lt s (first + count)) (le-ltb s (first + count) (omega arith)))

pub parts_drive-hidden : (signals hidden : List Signal) (s b : ℕ) (parts : List Part) → length signals ≤ s → list_all (part_fits signals) parts ≡ true
    → list_any (part_drives (signals ++ hidden) s b) parts ≡ false
parts_drive-hidden signals hidden s b [] above fits = refl
parts_drive-hidden signals hidden s b (part ∷ parts) above fits =
    let fit = and_parts (part_fits signals part) (list_all (part_fits signals) parts) fits in
    or_alike (part_drives (signals ++ hidden) s b part) false (list_any (part_drives (signals ++ hidden) s b) parts) false
    (part_drives-hidden signals hidden s b part above fit.0) (parts_drive-hidden signals hidden s b parts above fit.1)

-- ---- and a statement
pub drives-freed : (signals hidden : List Signal) (places : List Place) (n : Next) (statement : Stmt) (s b : ℕ) → statement_fits signals places statement ≡ true
    → length signals ≤ n.signal → s < length signals
    → statement_drives (signals ++ hidden) s b (freed n statement) ≡ statement_drives signals s b statement
drives-freed signals hidden places n statement s b fits above below =
    sets-freed signals places (λ parts later. list_any (part_drives signals s b) parts) (λ parts later. list_any (part_drives (signals ++ hidden) s b) parts)
    (record {
      own = λ parts later fit. parts_drive-more signals hidden s b parts below fit;
      kept = λ h high. ap (λ x. x || false) (another s h (nat_lt b (width_at (signals ++ hidden) h)) (λ here. absurd (omega arith)));
    }) n statement fits above

pub later-freed : (signals : List Signal) (places : List Place) (n : Next) (statement : Stmt) (s : ℕ) → statement_fits signals places statement ≡ true
    → length signals ≤ n.signal → assigns_later s (freed n statement) ≡ assigns_later s statement
later-freed signals places n statement s fits above =
    sets-freed signals places (λ parts later. later && list_any (part_names s) parts) (λ parts later. later && list_any (part_names s) parts)
    (record { own = λ parts later fit. refl; kept = λ h high. refl }) n statement fits above

pub drives-outside : (signals : List Signal) (places : List Place) (statement : Stmt) (s b : ℕ) → statement_fits signals places statement ≡ true
    → length signals ≤ s → statement_drives signals s b statement ≡ false
drives-outside signals places statement s b fits above =
    sets-none signals places (λ parts later. list_any (part_drives signals s b) parts) (λ parts later fit. parts_drive-outside signals s b parts above fit) statement fits
