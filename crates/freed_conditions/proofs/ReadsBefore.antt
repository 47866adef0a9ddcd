-- A freed statement reads before it has surely assigned them those bits of a design's own signals that the statement does, and none of the
-- nets of conditions, each of which is assigned right before it is read.
use Rattle.std.proofs.Common.{ℕ, ◌+◌, ◌≡◌, ◌<◌, ◌≤◌, Bool, true, false, ◌||◌, ◌&&◌, List, [], ◌∷◌, ◌++◌, length, refl, ap, ◌∙◌, arith}
use Rattle.std.specs.Prelude.{not, ◌==◌, nat_lt}
use Rattle.std.specs.List.{list_any, list_all}
use Rattle.std.proofs.lemmas.Bool.{and_parts, and_right}
use Rattle.design_core.specs.declared.signal.Signal.{Signal}
use Rattle.design_core.specs.declared.place.Place.{Place}
use Rattle.design_core.specs.declared.expression.Typed.{Typed}
use Rattle.design_core.specs.declared.expression.Node.{Node, end_of-Typed, more_of-Typed}
use Rattle.design_core.specs.declared.expression.Node.TheVariants as node
use Rattle.design_core.specs.declared.statement.Part.TheVariants as part
use Rattle.design_core.specs.declared.statement.Label.{Label}
use Rattle.design_core.specs.declared.statement.Stmt.{Stmt, Row_of-Stmt, end_of-Stmt, more_of-Stmt, Row_of-CaseItem, end_of-CaseItem, more_of-CaseItem}
use Rattle.design_core.specs.declared.statement.Stmt.TheVariants.{Nothing, Block', If', Case', Set}
use Rattle.design_core.specs.Constant.{is_constant}
use Rattle.design_core.specs.Valuation.{width_at}
use Rattle.design_core.specs.Store.{parts_width}
use Rattle.design_core.specs.Reads.{reads, assigns_at_once, assigns, statement_reads, statements_read, items_read}
use Rattle.design_core.specs.WellFormed.{typed_fits, label_fits, place_fits, assignment_fits, statement_fits, statements_fit, items_fit}
use Rattle.freed_conditions.specs.Kept.{Next, behind, behind_one, truth, kept, from_kept, kept_of, subject_of, whole, keep}
use Rattle.freed_conditions.specs.Widths.{own_width, widths, widths_of, widths_in}
use Rattle.freed_conditions.specs.Freed.{both, freed, freed_all, freed_in}
use Rattle.freed_conditions.specs.Alike.{Room}
use Rattle.freed_conditions.proofs.Rooms.{room-left, room-right, room-wide, room-next, room-own}
use Rattle.freed_conditions.proofs.FitsFreed.{if_known}
use Rattle.freed_conditions.proofs.DrivesFreed.{if_both, or_alike, another}
use Rattle.freed_conditions.proofs.ReadsFreed.{reads-more, reads-none, set_reads-more, set_reads-none}
use Rattle.freed_conditions.proofs.PathsFreed.{and_alike, label-typed, net-assigns, assigns-freed}

-- ---- labels
labels_read-more : (signals hidden : List Signal) (s b width : ℕ) (labels : List Label) → list_all (label_fits signals width) labels ≡ true
    → list_any (λ (label : Label). reads (signals ++ hidden) s b label.value) labels ≡ list_any (λ (label : Label). reads signals s b label.value) labels
labels_read-more signals hidden s b width [] fits = refl
labels_read-more signals hidden s b width (label ∷ labels) fits =
    let fit = and_parts (label_fits signals width label) (list_all (label_fits signals width) labels) fits in
    or_alike (reads (signals ++ hidden) s b label.value) (reads signals s b label.value)
    (list_any (λ (l : Label). reads (signals ++ hidden) s b l.value) labels) (list_any (λ (l : Label). reads signals s b l.value) labels)
    (reads-more signals hidden s b label.value (label-typed signals width label fit.0)) (labels_read-more signals hidden s b width labels fit.1)

labels_read-none : (signals hidden : List Signal) (s b width : ℕ) (labels : List Label) → list_all (label_fits signals width) labels ≡ true → length signals ≤ s
    → list_any (λ (label : Label). reads (signals ++ hidden) s b label.value) labels ≡ false
labels_read-none signals hidden s b width [] fits above = refl
labels_read-none signals hidden s b width (label ∷ labels) fits above =
    let fit = and_parts (label_fits signals width label) (list_all (label_fits signals width) labels) fits in
    or_alike (reads (signals ++ hidden) s b label.value) false (list_any (λ (l : Label). reads (signals ++ hidden) s b l.value) labels) false
    (reads-none signals hidden s b label.value (label-typed signals width label fit.0) above) (labels_read-none signals hidden s b width labels fit.1 above)

-- ---- what a kept condition and a subject by its net read
reads-kept : (signals : List Signal) (s b width : ℕ) (signed : Bool) (e : Node)
    → reads signals s b (kept width signed e) ≡ reads signals s b (record { width = width; signed = signed; node = e })
reads-kept signals s b width signed (node.Resize' _ (more_of-Typed arg_width arg_signed arg end_of-Typed)) = refl
reads-kept signals s b width signed _ = refl

reads-net : (signals : List Signal) (s b width : ℕ) (signed : Bool) (e : Node) (h : ℕ)
    → reads signals s b (from_kept width signed e h) ≡ (s == h && nat_lt b (kept width signed e).width)
reads-net signals s b width signed (node.Resize' _ (more_of-Typed arg_width arg_signed arg end_of-Typed)) h = refl
reads-net signals s b width signed _ h = refl

-- ---- a statement behind what keeps its condition: it reads the condition, and what it reads itself and the net isn't
pub reads-both : (signals : List Signal) (s b : ℕ) (n : Next) (e : Typed) (statement : Stmt)
    → statement_reads signals s b (both (keep n e) statement)
    ≡ (reads signals s b e || (not (assigns_at_once signals s b (part.Whole n.signal ∷ []) false) && statement_reads signals s b statement))
reads-both signals s b n e statement =
    at (reads signals s b e) (assigns_at_once signals s b (part.Whole n.signal ∷ []) false) (statement_reads signals s b statement) (assigns signals s b statement)
  where
    at : (own net rest done : Bool) → ((own || false) || (not net && (rest || (not done && false)))) ≡ (own || (not net && rest))
    at true net rest done = refl
    at false true rest done = refl
    at false false true done = refl
    at false false false true = refl
    at false false false false = refl

-- of another signal than the net
both-other : (signals : List Signal) (s b : ℕ) (n : Next) (e : Typed) (statement : Stmt) → (s ≡ n.signal → ⊥)
    → statement_reads signals s b (both (keep n e) statement) ≡ (reads signals s b e || statement_reads signals s b statement)
both-other signals s b n e statement other =
    reads-both signals s b n e statement
    ∙ ap (λ k. reads signals s b e || (not k && statement_reads signals s b statement)) (net-assigns signals s b n.signal other)

-- ---- a bit of a design's own signal
mutual
  pub before-freed : (signals hidden : List Signal) (places : List Place) (n : Next) (statement : Stmt) (s b : ℕ) → statement_fits signals places statement ≡ true
      → length signals ≤ n.signal → s < length signals → statement_reads (signals ++ hidden) s b (freed n statement) ≡ statement_reads signals s b statement
  before-freed signals hidden places n Nothing s b fits above below = refl
  before-freed signals hidden places n (Block' _ statements) s b fits above below = before_all-freed signals hidden places n statements s b fits above below
  before-freed signals hidden places n (If' e _ (more_of-Stmt on_true end_of-Stmt) _ (more_of-Stmt on_false end_of-Stmt)) s b fits above below =
      let fit = and_parts (typed_fits signals e && statement_fits signals places on_true) (statement_fits signals places on_false) fits in
      let front = and_parts (typed_fits signals e) (statement_fits signals places on_true) fit.0 in
      let i = behind_one n in
      let more : List Signal = signals ++ hidden in
      let apart : s ≡ n.signal → ⊥ = λ here. absurd (omega arith) in
      let by_net : Stmt = If' (whole 1 false n.signal) _ (more_of-Stmt (freed i on_true) end_of-Stmt) _ (more_of-Stmt (freed (behind (widths on_true) i) on_false) end_of-Stmt) in
      if_both (λ t. statement_reads more s b t ≡ (reads signals s b e || (statement_reads signals s b on_true || statement_reads signals s b on_false))) (is_constant e.node)
      (If' e _ (more_of-Stmt (freed n on_true) end_of-Stmt) _ (more_of-Stmt (freed (behind (widths on_true) n) on_false) end_of-Stmt))
      (both (keep n (truth e)) by_net)
      (or_alike (reads more s b e) (reads signals s b e)
      (statement_reads more s b (freed n on_true) || statement_reads more s b (freed (behind (widths on_true) n) on_false)) (statement_reads signals s b on_true || statement_reads signals s b on_false)
      (reads-more signals hidden s b e front.0)
      (or_alike (statement_reads more s b (freed n on_true)) (statement_reads signals s b on_true)
      (statement_reads more s b (freed (behind (widths on_true) n) on_false)) (statement_reads signals s b on_false)
      (before-freed signals hidden places n on_true s b front.1 above below)
      (before-freed signals hidden places (behind (widths on_true) n) on_false s b fit.1 (omega arith) below)))
      (both-other more s b n (truth e) by_net apart
      ∙ or_alike (reads more s b e) (reads signals s b e)
      (statement_reads more s b by_net) (statement_reads signals s b on_true || statement_reads signals s b on_false)
      (reads-more signals hidden s b e front.0)
      (ap (λ x. x || (statement_reads more s b (freed i on_true) || statement_reads more s b (freed (behind (widths on_true) i) on_false))) (another s n.signal (nat_lt b 1) apart)
      ∙ or_alike (statement_reads more s b (freed i on_true)) (statement_reads signals s b on_true)
      (statement_reads more s b (freed (behind (widths on_true) i) on_false)) (statement_reads signals s b on_false)
      (before-freed signals hidden places i on_true s b front.1 (omega arith) below)
      (before-freed signals hidden places (behind (widths on_true) i) on_false s b fit.1 (omega arith) below)))
  before-freed signals hidden places n (Case' subject shape items _ (more_of-Stmt other end_of-Stmt) wild) s b fits above below =
      let fit = and_parts (typed_fits signals subject && items_fit signals places subject.width items) (statement_fits signals places other) fits in
      let front = and_parts (typed_fits signals subject) (items_fit signals places subject.width items) fit.0 in
      let i = behind_one n in
      let more : List Signal = signals ++ hidden in
      let apart : s ≡ n.signal → ⊥ = λ here. absurd (omega arith) in
      let by_net : Stmt = Case' (subject_of subject n.signal) shape (freed_in i items) _ (more_of-Stmt (freed (behind (widths_in items) i) other) end_of-Stmt) wild in
      if_both (λ t. statement_reads more s b t ≡ (reads signals s b subject || (items_read signals s b items || statement_reads signals s b other))) (is_constant subject.node)
      (Case' subject shape (freed_in n items) _ (more_of-Stmt (freed (behind (widths_in items) n) other) end_of-Stmt) wild)
      (both (keep n (kept_of subject)) by_net)
      (or_alike (reads more s b subject) (reads signals s b subject)
      (items_read more s b (freed_in n items) || statement_reads more s b (freed (behind (widths_in items) n) other)) (items_read signals s b items || statement_reads signals s b other)
      (reads-more signals hidden s b subject front.0)
      (or_alike (items_read more s b (freed_in n items)) (items_read signals s b items)
      (statement_reads more s b (freed (behind (widths_in items) n) other)) (statement_reads signals s b other)
      (before_in-freed signals hidden places n subject.width items s b front.1 above below)
      (before-freed signals hidden places (behind (widths_in items) n) other s b fit.1 (omega arith) below)))
      (both-other more s b n (kept_of subject) by_net apart
      ∙ or_alike (reads more s b (kept_of subject)) (reads signals s b subject)
      (statement_reads more s b by_net) (items_read signals s b items || statement_reads signals s b other)
      (reads-kept more s b subject.width subject.signed subject.node ∙ reads-more signals hidden s b subject front.0)
      (ap (λ x. x || (items_read more s b (freed_in i items) || statement_reads more s b (freed (behind (widths_in items) i) other)))
      (reads-net more s b subject.width subject.signed subject.node n.signal ∙ another s n.signal (nat_lt b (kept_of subject).width) apart)
      ∙ or_alike (items_read more s b (freed_in i items)) (items_read signals s b items)
      (statement_reads more s b (freed (behind (widths_in items) i) other)) (statement_reads signals s b other)
      (before_in-freed signals hidden places i subject.width items s b front.1 (omega arith) below)
      (before-freed signals hidden places (behind (widths_in items) i) other s b fit.1 (omega arith) below)))
  before-freed signals hidden places n (Set place target e later) s b fits above below =
      set_reads-more signals hidden s b target.parts e (and_parts (assignment_fits signals target.parts e) (place_fits places (parts_width signals target.parts) place) fits).0

  pub before_all-freed : {shape : _} (signals hidden : List Signal) (places : List Place) (n : Next) (statements : Row_of-Stmt shape) (s b : ℕ) → statements_fit signals places statements ≡ true
      → length signals ≤ n.signal → s < length signals → statements_read (signals ++ hidden) s b (freed_all n statements) ≡ statements_read signals s b statements
  before_all-freed signals hidden places n end_of-Stmt s b fits above below = refl
  before_all-freed signals hidden places n (more_of-Stmt statement rest) s b fits above below =
      let fit = and_parts (statement_fits signals places statement) (statements_fit signals places rest) fits in
      let more : List Signal = signals ++ hidden in
      let m = behind (widths statement) n in
      or_alike (statement_reads more s b (freed n statement)) (statement_reads signals s b statement)
      (not (assigns more s b (freed n statement)) && statements_read more s b (freed_all m rest)) (not (assigns signals s b statement) && statements_read signals s b rest)
      (before-freed signals hidden places n statement s b fit.0 above below)
      (and_alike (not (assigns more s b (freed n statement))) (not (assigns signals s b statement)) (statements_read more s b (freed_all m rest)) (statements_read signals s b rest)
      (ap not (assigns-freed signals hidden places n statement s b fit.0 above below))
      (before_all-freed signals hidden places m rest s b fit.1 (omega arith) below))

  pub before_in-freed : {shape : _} (signals hidden : List Signal) (places : List Place) (n : Next) (width : ℕ) (items : Row_of-CaseItem shape) (s b : ℕ) → items_fit signals places width items ≡ true
      → length signals ≤ n.signal → s < length signals → items_read (signals ++ hidden) s b (freed_in n items) ≡ items_read signals s b items
  before_in-freed signals hidden places n width end_of-CaseItem s b fits above below = refl
  before_in-freed signals hidden places n width (more_of-CaseItem labels body rest) s b fits above below =
      let fit = and_parts (list_all (label_fits signals width) labels && statement_fits signals places body) (items_fit signals places width rest) fits in
      let front = and_parts (list_all (label_fits signals width) labels) (statement_fits signals places body) fit.0 in
      let more : List Signal = signals ++ hidden in
      let m = behind (widths body) n in
      or_alike (list_any (λ label. reads more s b label.value) labels) (list_any (λ label. reads signals s b label.value) labels)
      (statement_reads more s b (freed n body) || items_read more s b (freed_in m rest)) (statement_reads signals s b body || items_read signals s b rest)
      (labels_read-more signals hidden s b width labels front.0)
      (or_alike (statement_reads more s b (freed n body)) (statement_reads signals s b body) (items_read more s b (freed_in m rest)) (items_read signals s b rest)
      (before-freed signals hidden places n body s b front.1 above below)
      (before_in-freed signals hidden places m width rest s b fit.1 (omega arith) below))

-- ---- a bit of a net
-- what goes by a net doesn't read it where it was assigned, and nothing else where its arms don't
net-bools : (net one other : Bool) → one ≡ false → other ≡ false → (not (net || false) && (net || (one || other))) ≡ false
net-bools true one other first second = refl
net-bools false one other first second = or_alike one false other false first second

both-none : (signals : List Signal) (s b : ℕ) (n : Next) (e : Typed) (statement : Stmt) (width : ℕ) (one other : Bool) → width_at signals n.signal ≡ width
    → reads signals s b e ≡ false → statement_reads signals s b statement ≡ ((s == n.signal && nat_lt b width) || (one || other)) → one ≡ false → other ≡ false
    → statement_reads signals s b (both (keep n e) statement) ≡ false
both-none signals s b n e statement width one other wide unread is first second =
    reads-both signals s b n e statement
    ∙ ap (λ x. x || (not (assigns_at_once signals s b (part.Whole n.signal ∷ []) false) && statement_reads signals s b statement)) unread
    ∙ ap (λ w. not ((s == n.signal && nat_lt b w) || false) && statement_reads signals s b statement) wide
    ∙ ap (λ x. not ((s == n.signal && nat_lt b width) || false) && x) is
    ∙ net-bools (s == n.signal && nat_lt b width) one other first second

-- no place is freed
abbrev pub nothing_freed : ℕ → Bool
nothing_freed p = false

mutual
  pub before-none : (signals hidden : List Signal) (places : List Place) (n : Next) (statement : Stmt) (s b : ℕ) → statement_fits signals places statement ≡ true
      → Room signals hidden nothing_freed n (widths statement) → length signals ≤ s → statement_reads (signals ++ hidden) s b (freed n statement) ≡ false
  before-none signals hidden places n Nothing s b fits room above = refl
  before-none signals hidden places n (Block' _ statements) s b fits room above = before_all-none signals hidden places n statements s b fits room above
  before-none signals hidden places n (If' e _ (more_of-Stmt on_true end_of-Stmt) _ (more_of-Stmt on_false end_of-Stmt)) s b fits room above =
      let fit = and_parts (typed_fits signals e && statement_fits signals places on_true) (statement_fits signals places on_false) fits in
      let front = and_parts (typed_fits signals e) (statement_fits signals places on_true) fit.0 in
      let i = behind_one n in
      let more : List Signal = signals ++ hidden in
      let ws : List ℕ = widths on_true ++ widths on_false in
      let y : Stmt = freed i on_true in
      let z : Stmt = freed (behind (widths on_true) i) on_false in
      if_known (λ t. statement_reads more s b t ≡ false) (is_constant e.node)
      (If' e _ (more_of-Stmt (freed n on_true) end_of-Stmt) _ (more_of-Stmt (freed (behind (widths on_true) n) on_false) end_of-Stmt))
      (both (keep n (truth e)) (If' (whole 1 false n.signal) _ (more_of-Stmt y end_of-Stmt) _ (more_of-Stmt z end_of-Stmt)))
      (λ is.
      let here : Room signals hidden nothing_freed n ws = room-own signals hidden nothing_freed n e 1 ws true is room in
      or_alike (reads more s b e) false (statement_reads more s b (freed n on_true) || statement_reads more s b (freed (behind (widths on_true) n) on_false)) false
      (reads-none signals hidden s b e front.0 above)
      (or_alike (statement_reads more s b (freed n on_true)) false (statement_reads more s b (freed (behind (widths on_true) n) on_false)) false
      (before-none signals hidden places n on_true s b front.1 (room-left signals hidden nothing_freed n (widths on_true) (widths on_false) here) above)
      (before-none signals hidden places (behind (widths on_true) n) on_false s b fit.1 (room-right signals hidden nothing_freed n (widths on_true) (widths on_false) here) above)))
      (λ is.
      let own : Room signals hidden nothing_freed n (1 ∷ ws) = room-own signals hidden nothing_freed n e 1 ws false is room in
      let here : Room signals hidden nothing_freed i ws = room-next signals hidden nothing_freed n 1 ws own in
      both-none more s b n (truth e) (If' (whole 1 false n.signal) _ (more_of-Stmt y end_of-Stmt) _ (more_of-Stmt z end_of-Stmt)) 1
      (statement_reads more s b y) (statement_reads more s b z) (room-wide signals hidden nothing_freed n 1 ws own)
      (reads-none signals hidden s b e front.0 above) refl
      (before-none signals hidden places i on_true s b front.1 (room-left signals hidden nothing_freed i (widths on_true) (widths on_false) here) above)
      (before-none signals hidden places (behind (widths on_true) i) on_false s b fit.1 (room-right signals hidden nothing_freed i (widths on_true) (widths on_false) here) above))
  before-none signals hidden places n (Case' subject shape items _ (more_of-Stmt other end_of-Stmt) wild) s b fits room above =
      let fit = and_parts (typed_fits signals subject && items_fit signals places subject.width items) (statement_fits signals places other) fits in
      let front = and_parts (typed_fits signals subject) (items_fit signals places subject.width items) fit.0 in
      let i = behind_one n in
      let more : List Signal = signals ++ hidden in
      let ws : List ℕ = widths_in items ++ widths other in
      let w : ℕ = (kept_of subject).width in
      let last : Stmt = freed (behind (widths_in items) i) other in
      if_known (λ t. statement_reads more s b t ≡ false) (is_constant subject.node)
      (Case' subject shape (freed_in n items) _ (more_of-Stmt (freed (behind (widths_in items) n) other) end_of-Stmt) wild)
      (both (keep n (kept_of subject)) (Case' (subject_of subject n.signal) shape (freed_in i items) _ (more_of-Stmt last end_of-Stmt) wild))
      (λ is.
      let here : Room signals hidden nothing_freed n ws = room-own signals hidden nothing_freed n subject w ws true is room in
      or_alike (reads more s b subject) false (items_read more s b (freed_in n items) || statement_reads more s b (freed (behind (widths_in items) n) other)) false
      (reads-none signals hidden s b subject front.0 above)
      (or_alike (items_read more s b (freed_in n items)) false (statement_reads more s b (freed (behind (widths_in items) n) other)) false
      (before_in-none signals hidden places n subject.width items s b front.1 (room-left signals hidden nothing_freed n (widths_in items) (widths other) here) above)
      (before-none signals hidden places (behind (widths_in items) n) other s b fit.1 (room-right signals hidden nothing_freed n (widths_in items) (widths other) here) above)))
      (λ is.
      let own : Room signals hidden nothing_freed n (w ∷ ws) = room-own signals hidden nothing_freed n subject w ws false is room in
      let here : Room signals hidden nothing_freed i ws = room-next signals hidden nothing_freed n w ws own in
      both-none more s b n (kept_of subject) (Case' (subject_of subject n.signal) shape (freed_in i items) _ (more_of-Stmt last end_of-Stmt) wild) w
      (items_read more s b (freed_in i items)) (statement_reads more s b last) (room-wide signals hidden nothing_freed n w ws own)
      (reads-kept more s b subject.width subject.signed subject.node ∙ reads-none signals hidden s b subject front.0 above)
      (ap (λ x. x || (items_read more s b (freed_in i items) || statement_reads more s b last)) (reads-net more s b subject.width subject.signed subject.node n.signal))
      (before_in-none signals hidden places i subject.width items s b front.1 (room-left signals hidden nothing_freed i (widths_in items) (widths other) here) above)
      (before-none signals hidden places (behind (widths_in items) i) other s b fit.1 (room-right signals hidden nothing_freed i (widths_in items) (widths other) here) above))
  before-none signals hidden places n (Set place target e later) s b fits room above =
      set_reads-none signals hidden s b target.parts e (and_parts (assignment_fits signals target.parts e) (place_fits places (parts_width signals target.parts) place) fits).0 above

  pub before_all-none : {shape : _} (signals hidden : List Signal) (places : List Place) (n : Next) (statements : Row_of-Stmt shape) (s b : ℕ) → statements_fit signals places statements ≡ true
      → Room signals hidden nothing_freed n (widths_of statements) → length signals ≤ s → statements_read (signals ++ hidden) s b (freed_all n statements) ≡ false
  before_all-none signals hidden places n end_of-Stmt s b fits room above = refl
  before_all-none signals hidden places n (more_of-Stmt statement rest) s b fits room above =
      let fit = and_parts (statement_fits signals places statement) (statements_fit signals places rest) fits in
      let more : List Signal = signals ++ hidden in
      let m = behind (widths statement) n in
      or_alike (statement_reads more s b (freed n statement)) false (not (assigns more s b (freed n statement)) && statements_read more s b (freed_all m rest)) false
      (before-none signals hidden places n statement s b fit.0 (room-left signals hidden nothing_freed n (widths statement) (widths_of rest) room) above)
      (and_right (not (assigns more s b (freed n statement))) (statements_read more s b (freed_all m rest))
      (before_all-none signals hidden places m rest s b fit.1 (room-right signals hidden nothing_freed n (widths statement) (widths_of rest) room) above))

  pub before_in-none : {shape : _} (signals hidden : List Signal) (places : List Place) (n : Next) (width : ℕ) (items : Row_of-CaseItem shape) (s b : ℕ) → items_fit signals places width items ≡ true
      → Room signals hidden nothing_freed n (widths_in items) → length signals ≤ s → items_read (signals ++ hidden) s b (freed_in n items) ≡ false
  before_in-none signals hidden places n width end_of-CaseItem s b fits room above = refl
  before_in-none signals hidden places n width (more_of-CaseItem labels body rest) s b fits room above =
      let fit = and_parts (list_all (label_fits signals width) labels && statement_fits signals places body) (items_fit signals places width rest) fits in
      let front = and_parts (list_all (label_fits signals width) labels) (statement_fits signals places body) fit.0 in
      let more : List Signal = signals ++ hidden in
      let m = behind (widths body) n in
      or_alike (list_any (λ (label : Label). reads more s b label.value) labels) false (statement_reads more s b (freed n body) || items_read more s b (freed_in m rest)) false
      (labels_read-none signals hidden s b width labels front.0 above)
      (or_alike (statement_reads more s b (freed n body)) false (items_read more s b (freed_in m rest)) false
      (before-none signals hidden places n body s b front.1 (room-left signals hidden nothing_freed n (widths body) (widths_in rest) room) above)
      (before_in-none signals hidden places m width rest s b fit.1 (room-right signals hidden nothing_freed n (widths body) (widths_in rest) room) above))
