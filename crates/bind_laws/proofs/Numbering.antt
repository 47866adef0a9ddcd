-- Numbering a scope: what its names stand for, and what binding asks of its items and of the scopes inside.
use Rattle.std.proofs.Common.{◌≡◌, ℕ, Bool, true, false, List, [], ◌∷◌, ◌++◌, Option, Some, None, refl, sym, ◌∙◌, ap, subst, lit≤}
use Rattle.std.specs.Prelude.{⊤, if◌then◌else◌}
use Rattle.v_syntax.specs.declared.declaration.Identifier.{Identifier}
use Rattle.v_syntax.specs.declared.item.NetKind.{NetKind}
use Rattle.v_syntax.specs.ItemTree.{PlainDeclarator, PlainItem, port_item, net_item, integer_item, genvar_item, parameter_item, assign_item, gate_item, always_item, initial_item, instance_item, generate_item, loop_item, if_item, if_else_item}
use Rattle.v_hierarchy.specs.Names.{Entry, Standing, signal, array, integer, genvar, constant, bounds_of, meaning_of}
use Rattle.v_hierarchy.specs.Names as declared
use Rattle.v_hierarchy.specs.Parameters.{is_among}
use Rattle.v_hierarchy.specs.Items.{Copied, written, always, child, inner, turn, Block, scope, Copies, no_copy, copy}
use Rattle.v_binding.specs.declared.known.Use.TheVariants.{Outside as outside}
use Rattle.v_binding.specs.Steps.{through}
use Rattle.v_binding.specs.Names.{Known, Names, known, within, turned}
use Rattle.v_binding.specs.Signals.{is_loop_variable, Scope, scoped, Scopes, no_scope, more_scopes, and_scope, Scoping, Ground, with_signal, declared_as, with_declarator, an_integer, with_integer, fixed_all, ground_of, begun, ended, numbered, numbered_copy}
use Rattle.v_binding.specs.Standing.{EntriesStand, CopiesStand, BlockStands}
use Rattle.bind_laws.specs.Every.{Every}
use Rattle.bind_laws.specs.Fit.{UseFits, StepsFit, Begins}
use Rattle.bind_laws.specs.Scopes.{HasSignal, ItemFits, CopiesFit, BlockFits}
use Rattle.bind_laws.specs.OfText.{AreApart, DeclaratorOf, ItemOf, CopiesOf, BlockOf}
use Rattle.bind_laws.proofs.Lists.{Every-push, begins-itself, begins-more, begins-through}
use Rattle.bind_laws.proofs.Numbers.{Final}
use Rattle.bind_laws.proofs.ScopeNames.{Agrees, found-so, fixed_all-agrees, fixed_all-fit}
use Rattle.bind_laws.proofs.TextSteps.{steps-fit}
use Rattle.bind_laws.proofs.Declared.{NumberedFits, Numbers, numbers-nothing, numbers-on, signal-numbers, declarator-numbers, PortsListed, listed-on, declarator-has}

-- ---- scopes inside stay as they are
abbrev scopes_in : Scoping → Scopes
scopes_in met = met.inside

abbrev hidden_integer : Identifier → Scoping → Scoping
hidden_integer name met = record { signals = met.signals; names = met.names ++ known name.name outside ∷ []; inside = met.inside }

declarator-inside : (g : Ground) (d : PlainDeclarator) (met : Scoping) → (with_declarator g d met).inside ≡ met.inside
declarator-inside g d met = by (is_among d.name.name g.ports) (declared.find d.name.name g.entries)
  where
    by : (port : Bool) (o : Option Standing) → scopes_in (if port then met else declared_as g d o met) ≡ met.inside
    by true o = refl
    by false (Some (signal s)) = refl
    by false (Some (array s r)) = refl
    by false (Some integer) = refl
    by false (Some genvar) = refl
    by false (Some (constant _ _)) = refl
    by false None = refl

integer-inside : (g : Ground) (name : Identifier) (met : Scoping) → (with_integer g name met).inside ≡ met.inside
integer-inside g name met = by (is_loop_variable name g.copies)
  where
    by : (looped : Bool)
        → scopes_in (if looped then hidden_integer name met else with_signal false g name an_integer met) ≡ met.inside
    by true = refl
    by false = refl

integer-numbers : (w : Final) (g : Ground) (name : Identifier) (met : Scoping)
    → declared.find name.name g.entries ≡ Some integer → Numbers w g.entries met (with_integer g name met)
integer-numbers w g name met found = by (is_loop_variable name g.copies)
  where
    by : (looped : Bool)
        → Numbers w g.entries met (if looped then hidden_integer name met else with_signal false g name an_integer met)
    by true = record {
      signals = begins-itself met.signals;
      names = begins-more met.names (known name.name outside ∷ []);
      fit = λ begins fit. Every-push (λ (x : Known). UseFits w.signals x.use_of) met.names (known name.name outside) fit tt;
      agree = λ all. Every-push (Agrees g.entries) met.names (known name.name outside) all (λ s is. cc);
      fits = λ all. all;
    }
    by false = signal-numbers w false g name an_integer met (record { least = lit≤ tt; most = lit≤ tt; range = refl })

-- ---- an item
-- the names grow, and what binding asks of the item holds once all names of its scope are there
pub record ItemNumbers (w : Final) (g : Ground) (before after : Scoping) (Asks : Names → Type 0) : Type 0 where
  pub numbers : Numbers w g.entries before after
  pub asks : (final outer : Names) → Begins after.names final → Every (Agrees g.entries) final
      → Asks (within final outer)
  pub inside : after.inside ≡ before.inside

declarators-number : (w : Final) (g : Ground) (kind : NetKind) (list : List PlainDeclarator) (met : Scoping)
    → EntriesStand g.entries → PortsListed g.ports met.names
    → Every (DeclaratorOf g.entries kind) list
    → ItemNumbers w g met (through (with_declarator g) list met) (λ names. Every (HasSignal names kind) list)
declarators-number w g kind [] met stand ports of = record { numbers = numbers-nothing w g.entries met; asks = λ final outer begins agree. tt; inside = refl }
declarators-number w g kind (d ∷ ds) met stand ports of =
    let next = with_declarator g d met in
    let first = declarator-numbers w g d met stand in
    let more = declarators-number w g kind ds next stand (λ name among. listed-on met.names next.names name first.names (ports name among)) of.1 in
    record {
      numbers = numbers-on w g.entries met next (through (with_declarator g) ds next) first more.numbers;
      asks = λ final outer begins agree. (
        declarator-has w g kind d met final outer ports of.0
            (begins-through next.names (through (with_declarator g) ds next).names final more.numbers.names begins) agree,
        more.asks final outer begins agree,
      );
      inside = more.inside ∙ declarator-inside g d met;
    }

integers-number : (w : Final) (g : Ground) (names : List Identifier) (met : Scoping)
    → Every (λ (name : Identifier). declared.find name.name g.entries ≡ Some integer) names
    → ItemNumbers w g met (through (with_integer g) names met) (λ _. ⊤)
integers-number w g [] met of = record { numbers = numbers-nothing w g.entries met; asks = λ final outer begins agree. tt; inside = refl }
integers-number w g (name ∷ rest) met of =
    let next = with_integer g name met in
    let more = integers-number w g rest next of.1 in
    record {
      numbers = numbers-on w g.entries met next (through (with_integer g) rest next) (integer-numbers w g name met of.0) more.numbers;
      asks = λ final outer begins agree. tt;
      inside = more.inside ∙ integer-inside g name met;
    }

nothing-asked : (w : Final) (g : Ground) (met : Scoping) → ItemNumbers w g met met (λ _. ⊤)
nothing-asked w g met = record { numbers = numbers-nothing w g.entries met; asks = λ final outer begins agree. tt; inside = refl }

item-numbers : (w : Final) (g : Ground) (item : PlainItem) (met : Scoping) → EntriesStand g.entries
    → PortsListed g.ports met.names → ItemOf g.entries item
    → ItemNumbers w g met (numbered_copy g (written item) met) (λ names. ItemFits names item)
item-numbers w g (net_item _ kind _ _ _ list) met stand ports of = declarators-number w g kind list met stand ports of
item-numbers w g (integer_item _ names) met stand ports of = integers-number w g names met of
item-numbers w g (port_item _ _ _ _ _ _) met stand ports of = nothing-asked w g met
item-numbers w g (genvar_item _ _) met stand ports of = nothing-asked w g met
item-numbers w g (parameter_item _ _ _ _) met stand ports of = nothing-asked w g met
item-numbers w g (assign_item _ _ _) met stand ports of = nothing-asked w g met
item-numbers w g (gate_item _ _ _ _) met stand ports of = nothing-asked w g met
item-numbers w g (always_item _ _ _) met stand ports of = nothing-asked w g met
item-numbers w g (initial_item _ _) met stand ports of = nothing-asked w g met
item-numbers w g (instance_item _ _ _ _) met stand ports of = nothing-asked w g met
item-numbers w g (generate_item _ _) met stand ports of = nothing-asked w g met
item-numbers w g (loop_item _ _ _) met stand ports of = nothing-asked w g met
item-numbers w g (if_item _ _ _) met stand ports of = nothing-asked w g met
item-numbers w g (if_else_item _ _ _ _) met stand ports of = nothing-asked w g met

-- ---- scopes inside
-- scopes behind others
abbrev pub joined : Scopes → Scopes → Scopes
joined no_scope others = others
joined (more_scopes s rest) others = more_scopes s (joined rest others)

joined-none : (xs : Scopes) → joined xs no_scope ≡ xs
joined-none no_scope = refl
joined-none (more_scopes x xs) = ap (more_scopes x) (joined-none xs)

joined-next : (xs : Scopes) (s : Scope) (more : Scopes) → joined (and_scope xs s) more ≡ joined xs (more_scopes s more)
joined-next no_scope s more = refl
joined-next (more_scopes x xs) s more = ap (more_scopes x) (joined-next xs s more)

-- what is numbered of the rest of a scope
pub record CopiesNumber (w : Final) (g : Ground) (copies : Copies) (before after : Scoping) : Type 0 where
  pub numbers : Numbers w g.entries before after
  pub more : Scopes
  pub inside : after.inside ≡ joined before.inside more
  pub fit : Begins after.signals w.numbered → (final outer : Names) → Begins after.names final
      → Every (Agrees g.entries) final
      → CopiesFit w.signals (within final outer) more copies

-- what is numbered of a scope inside
pub record BlockNumbers (w : Final) (entries : List Entry) (block : Block) (before own : Scoping) : Type 0 where
  pub signals : Begins before.signals own.signals
  pub fits : Every NumberedFits before.signals → Every NumberedFits own.signals
  pub fit : Begins own.signals w.numbered → (outer : Names)
      → BlockFits w.signals outer (scoped own.names own.inside) block

nothing-more : (w : Final) (g : Ground) (met : Scoping) → CopiesNumber w g no_copy met met
nothing-more w g met = record {
  numbers = numbers-nothing w g.entries met;
  more = no_scope;
  inside = sym (joined-none met.inside);
  fit = λ begins final outer names agree. tt;
}

-- an item, then the rest
item-then : (w : Final) (g : Ground) (x : Copied) (rest : Copies) (met next last : Scoping) (Asks : Names → Type 0)
    → ItemNumbers w g met next Asks
    → CopiesNumber w g rest next last
    → ((names : Names) (scopes : Scopes) → Asks names → CopiesFit w.signals names scopes rest → CopiesFit w.signals names scopes (copy x rest))
    → CopiesNumber w g (copy x rest) met last
item-then w g x rest met next last Asks first others both = record {
  numbers = numbers-on w g.entries met next last first.numbers others.numbers;
  more = others.more;
  inside = others.inside ∙ ap (λ front. joined front others.more) first.inside;
  fit = λ begins final outer names agree. both (within final outer) others.more
      (first.asks final outer (begins-through next.names last.names final others.numbers.names names) agree)
      (others.fit begins final outer names agree);
}

-- a scope inside, then the rest
scope-then : (w : Final) (g : Ground) (x : Copied) (block : Block) (rest : Copies) (met own last : Scoping)
    → BlockNumbers w g.entries block met own
    → CopiesNumber w g rest (ended own met) last
    → ((names : Names) (scopes : Scopes) → ((outer : Names) → BlockFits w.signals outer (scoped own.names own.inside) block) → CopiesFit w.signals names scopes rest
    → CopiesFit w.signals names (more_scopes (scoped own.names own.inside) scopes) (copy x rest))
    → CopiesNumber w g (copy x rest) met last
scope-then w g x block rest met own last first others both = record {
  numbers = numbers-on w g.entries met (ended own met) last
      (record { signals = first.signals; names = begins-itself met.names; fit = λ _ fit. fit; agree = λ all. all; fits = first.fits }) others.numbers;
  more = more_scopes (scoped own.names own.inside) others.more;
  inside = others.inside ∙ joined-next met.inside (scoped own.names own.inside) others.more;
  fit = λ begins final outer names agree. both (within final outer) others.more
      (first.fit (begins-through own.signals last.signals w.numbered others.numbers.signals begins))
      (others.fit begins final outer names agree);
}

-- no ports
none-listed : (names : Names) → PortsListed [] names
none-listed names name among = cc

-- a scope from what is numbered of it
block-from : (w : Final) (around : List Entry) (path : List ℕ) (entries : List Entry) (copies : Copies)
    (met own : Scoping) (g : Ground) → g.entries ≡ entries → EntriesStand entries → AreApart entries
    → CopiesNumber w g copies (begun entries met.signals) own
    → BlockNumbers w around (scope path entries copies) met own
block-from w around path entries copies met own g same stand apart all = record {
  signals = all.numbers.signals;
  fits = all.numbers.fits;
  fit = λ begins outer.
      let agree = all.numbers.agree (subst (λ es. Every (Agrees es) (fixed_all entries)) (sym same) (fixed_all-agrees entries entries (found-so entries apart))) in (
        all.numbers.fit begins (fixed_all-fit w.signals entries stand),
        subst (λ scopes. CopiesFit w.signals (within own.names outer) scopes copies) (sym all.inside) (all.fit begins own.names outer (begins-itself own.names) agree),
      );
}

-- what is numbered of a scope with the names around it
abbrev block_scoping : Block → Names → Scoping → Scoping
block_scoping (scope path entries copies) names met = numbered (ground_of path entries copies names) copies (begun entries met.signals)

mutual
  pub copies-number : (w : Final) (g : Ground) (copies : Copies) (met : Scoping) → EntriesStand g.entries
      → PortsListed g.ports met.names → CopiesStand copies
      → CopiesOf g.entries copies → CopiesNumber w g copies met (numbered g copies met)
  copies-number w g no_copy met stand ports all of = nothing-more w g met
  copies-number w g (copy (written item) rest) met stand ports all of =
      let next = numbered_copy g (written item) met in
      let first = item-numbers w g item met stand ports of.0 in
      item-then w g (written item) rest met next (numbered g rest next) (λ names. ItemFits names item) first
      (copies-number w g rest next stand (λ name among. listed-on met.names next.names name first.numbers.names (ports name among)) all.1 of.1)
      (λ names scopes one others. (one, others))
  copies-number w g (copy (always s events body) rest) met stand ports all of =
      item-then w g (always s events body) rest met met (numbered g rest met) (λ _. StepsFit body)
      (record { numbers = numbers-nothing w g.entries met; asks = λ final outer begins agree. steps-fit body all.0 of.0; inside = refl })
      (copies-number w g rest met stand ports all.1 of.1) (λ names scopes one others. (one, others))
  copies-number w g (copy (child s c) rest) met stand ports all of =
      item-then w g (child s c) rest met met (numbered g rest met) (λ _. ⊤) (nothing-asked w g met)
      (copies-number w g rest met stand ports all.1 of.1) (λ names scopes one others. others)
  copies-number w g (copy (inner (scope path entries copies)) rest) met stand ports all of =
      let own = numbered (ground_of path entries copies g.names) copies (begun entries met.signals) in
      scope-then w g (inner (scope path entries copies)) (scope path entries copies) rest met own (numbered g rest (ended own met))
      (block-numbers w g.entries (scope path entries copies) g.names met (all.0.0, all.0.1) of.0)
      (copies-number w g rest (ended own met) stand ports all.1 of.1)
      (λ names scopes one others. (one names, others))
  copies-number w g (copy (turn variable value (scope path entries copies)) rest) met stand ports all of =
      let own = numbered (ground_of path entries copies (turned variable value g.names)) copies (begun entries met.signals) in
      scope-then w g (turn variable value (scope path entries copies)) (scope path entries copies) rest met own (numbered g rest (ended own met))
      (block-numbers w g.entries (scope path entries copies) (turned variable value g.names) met (all.0.1, all.0.2) of.0)
      (copies-number w g rest (ended own met) stand ports all.1 of.1)
      (λ names scopes one others. (all.0.0, one (turned variable value names), others))

  block-numbers : (w : Final) (around : List Entry) (block : Block) (names : Names) (met : Scoping)
      → BlockStands block → BlockOf block
      → BlockNumbers w around block met (block_scoping block names met)
  block-numbers w around (scope path entries copies) names met stand of =
      let g = ground_of path entries copies names in
      block-from w around path entries copies met (numbered g copies (begun entries met.signals)) g refl stand.0 of.0
      (copies-number w g copies (begun entries met.signals) stand.0 (none-listed (fixed_all entries)) stand.1 of.1)
