-- Names get the same numbers where of each name that a scope declares the first entry alone is kept.
use Rattle.std.proofs.Common.{◌≡◌, ℕ, List, [], ◌∷◌, map, Option, Some, None, refl, ap, ◌∙◌}
use Rattle.std.specs.Prelude.{if◌then◌else◌, Bool, option_map}
use Rattle.v_syntax.specs.declared.declaration.Identifier.{Identifier}
use Rattle.v_syntax.specs.ItemTree.{PlainDeclarator, PlainItem, port_item, net_item, integer_item, genvar_item, parameter_item, assign_item, gate_item, always_item, initial_item, instance_item, generate_item, loop_item, if_item, if_else_item}
use Rattle.v_hierarchy.specs.Frames.{names_of}
use Rattle.v_hierarchy.specs.Headers.{Port}
use Rattle.v_hierarchy.specs.Names.{Entry, Standing, signal, array, integer, genvar, constant, find}
use Rattle.v_hierarchy.specs.Parameters.{is_among}
use Rattle.v_hierarchy.specs.Items.{Copied, written, always, child, inner, Block, scope, Copies, no_copy, copy}
use Rattle.v_hierarchy.specs.Items as items
use Rattle.v_hierarchy.specs.declared.instance.Instance.{Instance as Held-instance}
use Rattle.v_sizes.specs.declared.meaning.Const.{Const}
use Rattle.v_syntax.specs.ModuleTree.{module_of}
use Rattle.v_hierarchy.specs.Views.{entry_of, port_of, connections_if, instance_of, copied_of, copies_of}
use Rattle.bind_scopes.proofs.CopiedViews.{block_of_block}
use Rattle.v_binding.specs.Names as plain
use Rattle.v_binding.specs.Names.{within, turned}
use Rattle.v_binding.specs.Steps.{through}
use Rattle.v_binding.specs.Signals.{Scoping, Ground, declared_as, with_declarator, with_integer, with_port, unnumbered, begun, ended, numbered, numbered_copy, Numbered, is_top, numbered_instance}
use Rattle.bind_signals.specs.declared.ground.Ground.{Ground as Held}
use Rattle.bind_signals.specs.Firsts.{firsts}
use Rattle.bind_signals.specs.Ported.{port_names}
use Rattle.bind_signals.specs.Grounds.{ground_in, around, prefix_of}
use Rattle.bind_signals.proofs.FirstLaws.{find-firsts}

-- a scope with these entries
abbrev pub made : Option (List ℕ) → List (List ℕ) → Copies → plain.Names → List Entry → Ground
made prefix ports copies names entries = record { prefix = prefix; ports = ports; entries = entries; copies = copies; names = names }

through-same : {A S : Type 0} (one other : A → S → S) → ((x : A) (met : S) → one x met ≡ other x met) → (xs : List A) (met : S) → through one xs met ≡ through other xs met
through-same one other same [] met = refl
through-same one other same (x ∷ xs) met = ap (through one xs) (same x met) ∙ through-same one other same xs (other x met)

module _ (prefix : Option (List ℕ)) (ports : List (List ℕ)) (kept : Copies) (names : plain.Names) (entries : List Entry) where
  abbrev pub first : Ground
  first = made prefix ports kept names (firsts entries)

  abbrev pub all : Ground
  all = made prefix ports kept names entries

  same-standing : (d : PlainDeclarator) (o : Option Standing) (met : Scoping) → declared_as first d o met ≡ declared_as all d o met
  same-standing d None met = refl
  same-standing d (Some (signal s)) met = refl
  same-standing d (Some (array s r)) met = refl
  same-standing d (Some integer) met = refl
  same-standing d (Some genvar) met = refl
  same-standing d (Some (constant c b)) met = refl

  same-declarator : (d : PlainDeclarator) (met : Scoping) → with_declarator first d met ≡ with_declarator all d met
  same-declarator d met =
      ap (λ m. if is_among d.name.name ports then met else m)
      (ap (λ o. declared_as first d o met) (find-firsts d.name.name entries) ∙ same-standing d (find d.name.name entries) met)

  same-integer : (name : Identifier) (met : Scoping) → with_integer first name met ≡ with_integer all name met
  same-integer name met = refl

  same-port : (top : Bool) (p : Port) (met : Scoping) → with_port top first p met ≡ with_port top all p met
  same-port top p met = refl

  pub ports-same : (top : Bool) (ps : List Port) (met : Scoping) → through (with_port top first) ps met ≡ through (with_port top all) ps met
  ports-same top ps met = through-same (with_port top first) (with_port top all) (same-port top) ps met

  same-copied : (x : Copied) (met : Scoping) → numbered_copy first x met ≡ numbered_copy all x met
  same-copied (written (net_item s kind signed range delay list)) met = through-same (with_declarator first) (with_declarator all) same-declarator list met
  same-copied (written (integer_item s list)) met = through-same (with_integer first) (with_integer all) same-integer list met
  same-copied (written (port_item s direction kind signed range list)) met = refl
  same-copied (written (genvar_item s list)) met = refl
  same-copied (written (parameter_item s own type_of values)) met = refl
  same-copied (written (assign_item s delay list)) met = refl
  same-copied (written (gate_item s kind delay gates)) met = refl
  same-copied (written (always_item s events body)) met = refl
  same-copied (written (initial_item s body)) met = refl
  same-copied (written (instance_item s name parameters list)) met = refl
  same-copied (written (generate_item s list)) met = refl
  same-copied (written (loop_item s head body)) met = refl
  same-copied (written (if_item s condition on_true)) met = refl
  same-copied (written (if_else_item s condition on_true other)) met = refl
  same-copied (always s events body) met = refl
  same-copied (child s c) met = refl
  same-copied (inner (scope path own copies)) met = refl
  same-copied (items.turn variable value (scope path own copies)) met = refl

  pub copies-same : (cs : Copies) (met : Scoping) → numbered first cs met ≡ numbered all cs met
  copies-same no_copy met = refl
  copies-same (copy x xs) met = ap (numbered first xs) (same-copied x met) ∙ copies-same xs (numbered_copy all x met)

-- ---- a scope from its parts
ground_made : (p q : Option (List ℕ)) (ps qs : List (List ℕ)) (cs ds : Copies) (names : plain.Names) (es fs : List Entry) → p ≡ q → ps ≡ qs → cs ≡ ds → es ≡ fs
    → made p ps cs names es ≡ made q qs ds names fs
ground_made p q ps qs cs ds names es fs prefix ports copies entries =
    ap (λ x. made x ps cs names es) prefix ∙ ap (λ x. made q x cs names es) ports ∙ ap (λ x. made q qs x names es) copies ∙ ap (λ x. made q qs ds names x) entries

-- a scope inside, from what the code holds of it
pub block_numbered : (g : Held) (path : List ℕ) (entries : List Entry) (copies : Copies) (around_it seen : plain.Names) (met own : Scoping)
    → option_map (λ p. p.now) g.prefix ≡ Some path → port_names g.ported.ports.now ≡ [] → copies_of (map copied_of g.looped.copies.now) ≡ copies → names_of g.frame ≡ firsts entries
    → seen ≡ within (map unnumbered entries) around_it → own ≡ numbered (ground_in g seen) copies (begun entries met.signals)
    → ended own met ≡ numbered_copy (around around_it) (inner (scope path entries copies)) met
block_numbered g path entries copies around_it seen met own prefix ports made_by kept is done =
    ap (λ o. ended o met)
    (done
    ∙ ap (λ x. numbered x copies (begun entries met.signals))
    (ground_made (option_map (λ p. p.now) g.prefix) (Some path) (port_names g.ported.ports.now) [] (copies_of (map copied_of g.looped.copies.now)) copies seen (names_of g.frame) (firsts entries)
    prefix ports made_by kept)
    ∙ ap (λ n. numbered (made (Some path) [] copies n (firsts entries)) copies (begun entries met.signals)) is
    ∙ copies-same (Some path) [] copies (within (map unnumbered entries) around_it) entries copies (begun entries met.signals))

-- an instance, from what the code holds of it
pub instance_numbered : (g : Held) (prefix : Option (List ℕ)) (ps : List Port) (top : Bool) (entries : List Entry) (copies : Copies) (seen : plain.Names) (met own : Scoping)
    → option_map (λ p. p.now) g.prefix ≡ prefix → port_names g.ported.ports.now ≡ map (λ p. p.name.name) ps → copies_of (map copied_of g.looped.copies.now) ≡ copies → names_of g.frame ≡ firsts entries
    → own ≡ numbered (ground_in g seen) copies (through (with_port top (ground_in g seen)) ps met)
    → own ≡ numbered (made prefix (map (λ p. p.name.name) ps) copies seen entries) copies (through (with_port top (made prefix (map (λ p. p.name.name) ps) copies seen entries)) ps met)
instance_numbered g prefix ps top entries copies seen met own is ports made_by kept done =
    done
    ∙ ap (λ x. numbered x copies (through (with_port top x) ps met))
    (ground_made (option_map (λ p. p.now) g.prefix) prefix (port_names g.ported.ports.now) (map (λ p. p.name.name) ps) (copies_of (map copied_of g.looped.copies.now)) copies seen (names_of g.frame) (firsts entries)
    is ports made_by kept)
    ∙ copies-same prefix (map (λ p. p.name.name) ps) copies seen entries copies (through (with_port top (made prefix (map (λ p. p.name.name) ps) copies seen (firsts entries))) ps met)
    ∙ ap (numbered (made prefix (map (λ p. p.name.name) ps) copies seen entries) copies) (ports-same prefix (map (λ p. p.name.name) ps) copies seen entries top ps met)

-- a scope inside, of a block or of a turn
pub inner_numbered : (g : Ground) (b : Block) (met : Scoping) → numbered_copy (around g.names) (inner b) met ≡ numbered_copy g (inner b) met
inner_numbered g (scope path entries copies) met = refl

pub turn_numbered : (g : Ground) (variable : Identifier) (value : Const) (b : Block) (met : Scoping)
    → numbered_copy (around (turned variable value g.names)) (inner b) met ≡ numbered_copy g (items.turn variable value b) met
turn_numbered g variable value (scope path entries copies) met = refl

pub ruleset inner_laws = (inner_numbered, turn_numbered)

-- an instance by its body
pub instance_is : (i : Held-instance) (signals : List Numbered)
    → numbered_instance (instance_of i) signals
    ≡ numbered (made (prefix_of i) (port_names i.ports) (copies_of (map copied_of i.body.copies)) (within (map unnumbered (map entry_of i.body.names)) []) (map entry_of i.body.names))
    (copies_of (map copied_of i.body.copies))
    (through (with_port (is_top (instance_of i))
    (made (prefix_of i) (port_names i.ports) (copies_of (map copied_of i.body.copies)) (within (map unnumbered (map entry_of i.body.names)) []) (map entry_of i.body.names)))
    (map port_of i.ports) (begun (map entry_of i.body.names) signals))
instance_is i signals =
    ap (λ b. numbered_instance (record { path = i.path; «module» = module_of i.«module».now; parent = i.parent; connections = connections_if i.connections; ports = map port_of i.ports; body = b }) signals)
    (block_of_block i.body)
