-- The values of a reset read no bit: what it leaves for a bit depends on what the bit was alone.
use Rattle.std.proofs.Common.{ℕ, ◌≡◌, Bool, true, false, not, ◌&&◌, ◌||◌, List, [], ◌∷◌, refl, ap, sym, ◌∙◌, inl}
use Rattle.std.specs.Prelude.{◌==◌, if◌then◌else◌, Some}
use Rattle.std.specs.Option.{option_map_or}
use Rattle.std.specs.List.{list_any, list_all}
use Rattle.std.proofs.lemmas.Bool.{and_parts, both_ways}
use Rattle.design_core.specs.declared.signal.Signal.{Signal}
use Rattle.design_core.specs.declared.expression.Node.{Node, end_of-Typed, more_of-Typed}
use Rattle.design_core.specs.declared.expression.Node.TheVariants as node
use Rattle.design_core.specs.declared.statement.Part.{Part}
use Rattle.design_core.specs.declared.statement.Part.TheVariants as part
use Rattle.design_core.specs.declared.statement.Stmt.{Stmt, Row_of-Stmt, end_of-Stmt, more_of-Stmt}
use Rattle.design_core.specs.declared.statement.Stmt.TheVariants.{Nothing, Block', If', Case', Set}
use Rattle.design_core.specs.declared.driver.Reset.{Reset}
use Rattle.design_core.specs.declared.driver.Clocked.{Clocked}
use Rattle.design_core.specs.declared.design.Design.{Design}
use Rattle.design_core.specs.Valuation.{Valuation, width_at}
use Rattle.design_core.specs.Constant.{is_constant}
use Rattle.design_core.specs.After.{Choice, Updates, after}
use Rattle.design_core.specs.Drives.{block_assigns_later, is_listed}
use Rattle.design_core.specs.Cycle.{left, left_from}
use Rattle.design_core.specs.Reads.{AgreeOn, node_reads, part_reads, assigns, statement_reads, statements_read}
use Rattle.design_core.specs.WellFormed.{is_fixed, is_reset_values, are_reset_values, statement_fits, reset_fits, clocked_fits}
use Rattle.design_core.proofs.StatementAgrees.{after-agrees, after-agrees_later}

constant-reads : (signals : List Signal) (s b width : ℕ) (e : Node) → is_constant e ≡ true → node_reads signals s b width e ≡ false
constant-reads signals s b width (node.Const word) h = refl
constant-reads signals s b width (node.Whole signal) h = cc
constant-reads signals s b width (node.Slice signal from size) h = cc
constant-reads signals s b width (node.Pick' signal _ index offsets) h = cc
constant-reads signals s b width (node.Word' first count low _ index from size) h = cc
constant-reads signals s b width (node.Unary' op _ arg) h = cc
constant-reads signals s b width (node.Binary' op _ left _ right) h = cc
constant-reads signals s b width (node.Choose' _ cond _ on_true _ on_false) h = cc
constant-reads signals s b width (node.Join' _ parts) h = cc
constant-reads signals s b width (node.Repeat' times _ arg) h = cc
constant-reads signals s b width (node.Resize' _ (more_of-Typed arg_width arg_signed arg end_of-Typed)) h =
    constant-reads signals s b arg_width arg h

fixed-reads : (signals : List Signal) (s b : ℕ) (p : Part) → is_fixed p ≡ true → part_reads signals s b p ≡ false
fixed-reads signals s b (part.Whole signal) h = refl
fixed-reads signals s b (part.Slice signal from width) h = refl
fixed-reads signals s b (part.Pick signal index offsets) h = constant-reads signals s b index.width index.node h
fixed-reads signals s b (part.Word first count low index from width) h = cc

all-fixed : (signals : List Signal) (s b : ℕ) (parts : List Part) → list_all is_fixed parts ≡ true
    → list_any (part_reads signals s b) parts ≡ false
all-fixed signals s b [] h = refl
all-fixed signals s b (p ∷ parts) h =
    let both = and_parts (is_fixed p) (list_all is_fixed parts) h in
    ap (λ x. x || list_any (part_reads signals s b) parts) (fixed-reads signals s b p both.0) ∙ all-fixed signals s b parts both.1

and_false : (x : Bool) → (x && false) ≡ false
and_false true = refl
and_false false = refl

mutual
  pub reset_values-read : (signals : List Signal) (s b : ℕ) (statement : Stmt) → is_reset_values statement ≡ true
      → statement_reads signals s b statement ≡ false
  reset_values-read signals s b Nothing h = refl
  reset_values-read signals s b (Block' _ statements) h = reset_values-read_all signals s b statements h
  reset_values-read signals s b (If' _ _ _ _ _) h = cc
  reset_values-read signals s b (Case' _ _ _ _ _ _) h = cc
  reset_values-read signals s b (Set _ target value _) h =
      let both = and_parts (is_constant value.node) (list_all is_fixed target.parts) h in
      ap (λ x. x || list_any (part_reads signals s b) target.parts) (constant-reads signals s b value.width value.node both.0)
      ∙ all-fixed signals s b target.parts both.1

  reset_values-read_all : {shape : _} (signals : List Signal) (s b : ℕ) (statements : Row_of-Stmt shape)
      → are_reset_values statements ≡ true → statements_read signals s b statements ≡ false
  reset_values-read_all signals s b end_of-Stmt h = refl
  reset_values-read_all signals s b (more_of-Stmt statement rest) h =
      let both = and_parts (is_reset_values statement) (are_reset_values rest) h in
      ap (λ x. x || (not (assigns signals s b statement) && statements_read signals s b rest))
      (reset_values-read signals s b statement both.0)
      ∙ ap (λ x. not (assigns signals s b statement) && x) (reset_values-read_all signals s b rest both.1)
      ∙ and_false (not (assigns signals s b statement))

pub left-alike : (block : Clocked) (m n : Updates) (s b : ℕ) → m.now s b ≡ n.now s b → m.later s b ≡ n.later s b
    → left block m s b ≡ left block n s b
left-alike block m n s b now later =
    ap (λ x. if block_assigns_later s block then m.later s b else x) now
    ∙ ap (λ x. if block_assigns_later s block then x else n.now s b) later

-- what a reset leaves for a bit is the same where the bit is
pub reset_values-agree : (d : Design) (choice : Choice) (block : Clocked) (r : Reset) (V S E : Valuation) (s b : ℕ)
    → block.reset ≡ Some r → clocked_fits d block ≡ true
    → V s b ≡ E s b → S s b ≡ E s b
    → left block (after d.signals.items choice r.values (record { now = V; later = S })) s b
    ≡ left_from d.signals.items choice block E r.values s b
reset_values-agree d choice block r V S E s b e fits now later =
    left-alike block (after d.signals.items choice r.values m) (after d.signals.items choice r.values n) s b
    (after-agrees d.signals.items d.places.items choice r.values m n s b values_fit alike (inl now))
    (after-agrees_later d.signals.items d.places.items choice r.values m n s b values_fit alike later)
  where
    m : Updates
    m = record { now = V; later = S }

    n : Updates
    n = record { now = E; later = E }

    here : reset_fits d r ≡ true
    here = sym (ap (λ o. option_map_or (reset_fits d) o true) e)
        ∙ (and_parts (statement_fits d.signals.items d.places.items block.body) (option_map_or (reset_fits d) block.reset true) fits).1

    parts : ((is_listed d r.signal && (width_at d.signals.items r.signal == 1) && is_reset_values r.values) ≡ true) ×
        (statement_fits d.signals.items d.places.items r.values ≡ true)
    parts = and_parts (is_listed d r.signal && (width_at d.signals.items r.signal == 1) && is_reset_values r.values)
        (statement_fits d.signals.items d.places.items r.values) here

    values_fit : statement_fits d.signals.items d.places.items r.values ≡ true
    values_fit = parts.1

    constants : is_reset_values r.values ≡ true
    constants = (and_parts (is_listed d r.signal && (width_at d.signals.items r.signal == 1)) (is_reset_values r.values) parts.0).1

    alike : AgreeOn (λ s b. statement_reads d.signals.items s b r.values) V E
    alike = record {
      same = λ s b read. absurd
          (both_ways (statement_reads d.signals.items s b r.values) (reset_values-read d.signals.items s b r.values constants) read);
    }
