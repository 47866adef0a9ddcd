-- What each item makes, by what its parts give: an equation for each variant.
use Rattle.std.proofs.Common.{◌≡◌, List, ◌∷◌, map, Option, Some, None, Bool, refl, sym, ap, ◌∙◌, ◌⊎◌, inl, inr}
use Rattle.std.specs.Prelude.{⊤, Result, Ok, Err, OnOk, IfErr, option_map}
use Rattle.std.specs.declared.vec.Vec.{Vec}
use Rattle.std.specs.declared.alloc.Global.{Global}
use Rattle.v_syntax.specs.declared.site.Site.{Site}
use Rattle.v_syntax.specs.declared.declaration.Identifier.{Identifier}
use Rattle.v_syntax.specs.declared.declaration.Range.{Range}
use Rattle.v_syntax.specs.declared.declaration.Delay.{Delay}
use Rattle.v_syntax.specs.declared.declaration.LoopHead.{LoopHead}
use Rattle.v_syntax.specs.declared.declaration.NamedValue.{NamedValue}
use Rattle.v_syntax.specs.declared.expression.Expr.{Expr}
use Rattle.v_syntax.specs.declared.statement.Statement.{Statement}
use Rattle.v_syntax.specs.declared.statement.Sensitivity.{Sensitivity}
use Rattle.v_syntax.specs.declared.item.Direction.{Direction}
use Rattle.v_syntax.specs.declared.item.NetKind.{NetKind}
use Rattle.v_syntax.specs.declared.item.ParameterKind.{ParameterKind}
use Rattle.v_syntax.specs.declared.item.ParameterType.{ParameterType}
use Rattle.v_syntax.specs.declared.item.GateKind.{GateKind}
use Rattle.v_syntax.specs.declared.item.Declarator.{Declarator}
use Rattle.v_syntax.specs.declared.item.NetAssignment.{NetAssignment}
use Rattle.v_syntax.specs.declared.item.GateInstance.{GateInstance}
use Rattle.v_syntax.specs.declared.item.Connections.{Connections}
use Rattle.v_syntax.specs.declared.item.Instance.{Instance}
use Rattle.v_syntax.specs.declared.item.Item.{Item}
use Rattle.v_syntax.specs.declared.item.Item.TheVariants as made
use Rattle.v_syntax.specs.declared.item.GenerateBlock.{GenerateBlock}
use Rattle.v_syntax.specs.Tree.{tree_of}
use Rattle.v_syntax.specs.PartTree.{PlainRange, PlainNamed, PlainDelay, range_of, named_of, delay_of}
use Rattle.v_syntax.specs.StatementTree.{head_of, statement_of}
use Rattle.v_syntax.specs.ItemTree.{PlainDeclarator, PlainParameterType, PlainConnections, PlainInstance, PlainItem, port_item, net_item, parameter_item, instance_item, item_of, items_of, block_of, declarator_of, parameter_type_of, sensitivity_of, connections_of, instance_of as plain_instance}
use Rattle.v_syntax.specs.ModuleTree.{PlainModule}
use Rattle.v_hierarchy.specs.declared.error.ElabErr.{ElabErr}
use Rattle.v_hierarchy.specs.declared.signal.Signal.{Signal}
use Rattle.v_hierarchy.specs.Constants.{bounds_if}
use Rattle.v_hierarchy.specs.Frames.{Refuses}
use Rattle.v_hierarchy.specs.Names.{Entry, look_in}
use Rattle.v_hierarchy.specs.Parameters.{Given, given_at, kind_at}
use Rattle.v_hierarchy.specs.Steps.{◌>>=◌, each}
use Rattle.v_hierarchy.specs.Unrolled.{holds_at}
use Rattle.v_hierarchy.specs.Items.{Place, Met, chosen, written, with_names, with_copy, ported, direction_of, net_of, parameter_of, instance_of, unit_of, item, items}
use Rattle.v_hierarchy.proofs.ItemSteps as views
use Rattle.v_connections.specs.Declarations.{with_bounds, ports_declared, nets_declared, parameters_declared}
use Rattle.v_elaborate.specs.Parts.{ports_met, nets_met, integers_met, genvars_met, parameters_met, always_met, making_met, instances_met, block_met, loop_met}

grouped : {A B C : Type 0} (r : Result A ElabErr) (f : A → Result B ElabErr) (g : B → Result C ElabErr) → r >>= (λ a. f a >>= g) ≡ (r >>= f) >>= g
grouped (Ok a) f g = refl
grouped (Err e) f g = refl

-- ---- plain items
plain-ports : (place : Place) (s : Site) (d : Direction) (k : Option NetKind) (signed : Bool) (range : Option PlainRange) (list : List Identifier) (met : Met)
    → item place (port_item s d k signed range list) met ≡ ports_met place (record { direction = Some d; kind = k; signed = signed; bounds = None }) range list met
plain-ports place s d k signed range list met =
    let signal : Signal = record { direction = Some d; kind = k; signed = signed; bounds = None } in
    grouped (bounds_if (look_in (met.names ∷ place.outer)) range) (λ b. each (direction_of (ported place) (with_bounds signal b)) list met.names) (λ more. Ok (with_names met more))

plain-nets : (place : Place) (s : Site) (k : NetKind) (signed : Bool) (range : Option PlainRange) (delay : Option PlainDelay) (list : List PlainDeclarator) (met : Met)
    → item place (net_item s k signed range delay list) met
    ≡ nets_met place.outer (net_item s k signed range delay list) (record { direction = None; kind = Some k; signed = signed; bounds = None }) range list met
plain-nets place s k signed range delay list met =
    let signal : Signal = record { direction = None; kind = Some k; signed = signed; bounds = None } in
    grouped (bounds_if (look_in (met.names ∷ place.outer)) range) (λ b. each (net_of (with_bounds signal b)) list met.names)
    (λ more. Ok (with_copy (with_names met more) (written (net_item s k signed range delay list))))

plain-parameters : (place : Place) (s : Site) (own : ParameterKind) (type_of : PlainParameterType) (list : List PlainNamed) (met : Met)
    → item place (parameter_item s own type_of list) met ≡ parameters_met place own type_of list met
plain-parameters place s own type_of list met =
    grouped (kind_at (look_in (met.names ∷ place.outer)) type_of) (λ kind. each (parameter_of place own kind) list met.names) (λ more. Ok (with_names met more))

plain-instances : (place : Place) (s : Site) (name : Identifier) (parameters : Option PlainConnections) (list : List PlainInstance) (met : Met)
    → item place (instance_item s name parameters list) met ≡ instances_met place s name parameters list met
plain-instances place s name parameters list met = go (unit_of place name)
  where
    inside : (m : PlainModule) (r : Result (List Given) ElabErr)
        → r >>= (λ values. each (instance_of place s m values) list met) ≡ (r >>= λ values. Ok (m, values)) >>= λ (p : PlainModule × List Given). each (instance_of place s p.0 p.1) list met
    inside m (Ok values) = refl
    inside m (Err e) = refl

    go : (r : Result PlainModule ElabErr)
        → r >>= (λ m. given_at (look_in (met.names ∷ place.outer)) m parameters >>= λ values. each (instance_of place s m values) list met)
        ≡ (r >>= λ m. given_at (look_in (met.names ∷ place.outer)) m parameters >>= λ values. Ok (m, values))
        >>= λ (p : PlainModule × List Given). each (instance_of place s p.0 p.1) list met
    go (Ok m) = inside m (given_at (look_in (met.names ∷ place.outer)) m parameters)
    go (Err e) = refl

-- ---- items of the code's tree
module _ (place : Place) (met : Met) (s : Site) where
  by : (x y : PlainItem) → x ≡ y → item place x met ≡ item place y met
  by x y same = ap (λ x. item place x met) same

  pub item-ports : (d : Direction) (k : Option NetKind) (signed : Bool) (range : Option Range) (names : Vec Identifier Global)
      → item place (item_of (made.Port s d k signed range names)) met
      ≡ ports_met place (record { direction = Some d; kind = k; signed = signed; bounds = None }) (option_map range_of range) names.items met
  item-ports d k signed range names = by _ _ (views.item_of_port s d k signed range names) ∙ plain-ports place s d k signed (option_map range_of range) names.items met

  pub item-nets : (k : NetKind) (signed : Bool) (range : Option Range) (delay : Option Delay) (names : Vec Declarator Global)
      → item place (item_of (made.Declaration s k signed range delay names)) met
      ≡ nets_met place.outer (item_of (made.Declaration s k signed range delay names)) (record { direction = None; kind = Some k; signed = signed; bounds = None })
      (option_map range_of range) (map declarator_of names.items) met
  item-nets k signed range delay names =
      let same = views.item_of_declaration s k signed range delay names in
      by _ _ same ∙ plain-nets place s k signed (option_map range_of range) (option_map delay_of delay) (map declarator_of names.items) met
      ∙ ap (λ x. nets_met place.outer x (record { direction = None; kind = Some k; signed = signed; bounds = None }) (option_map range_of range) (map declarator_of names.items) met) (sym same)

  pub item-integers : (names : Vec Identifier Global)
      → item place (item_of (made.Integers s names)) met ≡ integers_met (item_of (made.Integers s names)) names.items met
  item-integers names =
      let same = views.item_of_integers s names in by _ _ same ∙ ap (λ x. integers_met x names.items met) (sym same)

  pub item-genvars : (names : Vec Identifier Global) → item place (item_of (made.Genvars s names)) met ≡ genvars_met names.items met
  item-genvars names = by _ _ (views.item_of_genvars s names)

  pub item-parameters : (own : ParameterKind) (type_of : ParameterType) (values : Vec NamedValue Global)
      → item place (item_of (made.Parameters s own type_of values)) met ≡ parameters_met place own (parameter_type_of type_of) (map named_of values.items) met
  item-parameters own type_of values =
      by _ _ (views.item_of_parameters s own type_of values) ∙ plain-parameters place s own (parameter_type_of type_of) (map named_of values.items) met

  pub item-assigns : (delay : Option Delay) (assignments : Vec NetAssignment Global)
      → item place (item_of (made.Assigns s delay assignments)) met ≡ Ok (with_copy met (written (item_of (made.Assigns s delay assignments))))
  item-assigns delay assignments =
      let same = views.item_of_assigns s delay assignments in by _ _ same ∙ ap (λ x. Ok (with_copy met (written x))) (sym same)

  pub item-gates : (gate : GateKind) (delay : Option Delay) (gates : Vec GateInstance Global)
      → item place (item_of (made.Gates s gate delay gates)) met ≡ Ok (with_copy met (written (item_of (made.Gates s gate delay gates))))
  item-gates gate delay gates =
      let same = views.item_of_gates s gate delay gates in by _ _ same ∙ ap (λ x. Ok (with_copy met (written x))) (sym same)

  pub item-initial : (body : Statement) → item place (item_of (made.Initial s body)) met ≡ Ok (with_copy met (written (item_of (made.Initial s body))))
  item-initial body = let same = views.item_of_initial s body in by _ _ same ∙ ap (λ x. Ok (with_copy met (written x))) (sym same)

  pub item-always : (events : Sensitivity) (body : Statement)
      → item place (item_of (made.Always s events body)) met ≡ always_met place.outer s (sensitivity_of events) (statement_of body) met
  item-always events body = by _ _ (views.item_of_always s events body)

  pub item-instances : (name : Identifier) (parameters : Option Connections) (instances : Vec Instance Global)
      → item place (item_of (made.Instances s name parameters instances)) met
      ≡ instances_met place s name (option_map connections_of parameters) (map plain_instance instances.items) met
  item-instances name parameters instances =
      by _ _ (views.item_of_instances s name parameters instances)
      ∙ plain-instances place s name (option_map connections_of parameters) (map plain_instance instances.items) met

  pub item-generate : (list : Vec Item Global) → item place (item_of (made.Generate s list)) met ≡ items place (items_of (map item_of list.items)) met
  item-generate list = by _ _ (views.item_of_generate s list)

  pub item-loop : (head : LoopHead) (body : GenerateBlock)
      → item place (item_of (made.GenerateFor s head body)) met ≡ loop_met place s.span (head_of head) (block_of body) met
  item-loop head body = by _ _ (views.item_of_loop s head body)

  pub item-if : (condition : Expr) (on_true : GenerateBlock)
      → item place (item_of (made.GenerateIf s condition on_true None)) met
      ≡ holds_at (met.names ∷ place.outer) (tree_of condition) >>= λ holds. chosen holds (block_met place (block_of on_true)) (λ same. Ok same) met
  item-if condition on_true = by _ _ (views.item_of_if s condition on_true)

  pub item-if_else : (condition : Expr) (on_true other : GenerateBlock)
      → item place (item_of (made.GenerateIf s condition on_true (Some other))) met
      ≡ holds_at (met.names ∷ place.outer) (tree_of condition) >>= λ holds. chosen holds (block_met place (block_of on_true)) (block_met place (block_of other)) met
  item-if_else condition on_true other = by _ _ (views.item_of_if_else s condition on_true other)

-- an answer of an arm through its equation
pub arm-ok : (r : Result ⊤ ElabErr) (x y : Result Met ElabErr) (last : Met) → y ≡ x → OnOk r (x ≡ Ok last) → OnOk r (y ≡ Ok last)
arm-ok (Ok u) x y last same ok = same ∙ ok
arm-ok (Err e) x y last same ok = tt

pub arm-refuses : (r : Result ⊤ ElabErr) (x y : Result Met ElabErr) → y ≡ x → IfErr r (λ e. Refuses x e) → IfErr r (λ e. Refuses y e)
arm-refuses (Ok u) x y same all = tt
arm-refuses (Err e) x y same (inl none) = inl none
arm-refuses (Err e) x y same (inr is) = inr (same ∙ is)

pub ruleset body_rules = (views.block_steps)

pub ruleset item_rules = (
  item-ports,
  item-nets,
  item-integers,
  item-genvars,
  item-parameters,
  item-assigns,
  item-gates,
  item-initial,
  item-always,
  item-instances,
  item-generate,
  item-loop,
  item-if,
  item-if_else,
)
