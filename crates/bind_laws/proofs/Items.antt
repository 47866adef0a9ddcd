-- The items of a scope keep what is bound well formed.
use Rattle.std.proofs.Common.{◌≡◌, List, [], ◌∷◌, subst}
use Rattle.std.specs.Prelude.{⊤, Result, Ok}
use Rattle.v_syntax.specs.ItemTree.{PlainItem, port_item, net_item, integer_item, genvar_item, parameter_item, assign_item, gate_item, always_item, initial_item, instance_item, generate_item, loop_item, if_item, if_else_item}
use Rattle.v_hierarchy.specs.Items.{written, always, child, inner, turn, Block, scope, Copies, no_copy, copy}
use Rattle.v_binding.specs.declared.error.BindErr.{BindErr}
use Rattle.v_binding.specs.Names.{Names, within, turned}
use Rattle.v_binding.specs.Signals.{Scope, Scopes}
use Rattle.v_binding.specs.Bound.{Bound}
use Rattle.v_binding.specs.Blocks.{always_block}
use Rattle.v_binding.specs.Assignments.{assignment_of, declarator_of}
use Rattle.v_binding.specs.Gates.{gate_of}
use Rattle.v_binding.specs.Connections.{Socket, child_of}
use Rattle.v_binding.specs.Items.{Met, with_bound, Ground, home_of, inside, written_of, ports_next, children_after, scope_next, scopes_after, names_of, scopes_of, bound_copies, bound_block}
use Rattle.bind_laws.specs.Every.{Every}
use Rattle.bind_laws.specs.Fit.{NamesFit}
use Rattle.bind_laws.specs.Whole.{Whole}
use Rattle.bind_laws.specs.Scopes.{HasSignal, ItemFits, CopiesFit, BlockFits, SocketFits}
use Rattle.bind_laws.proofs.Lists.{Ok-same, between, each-keeps}
use Rattle.bind_laws.proofs.Names.{within-fit}
use Rattle.bind_laws.proofs.Goes.{Goes, goes-nowhere, goes-on}
use Rattle.bind_laws.proofs.Drivers.{assignment-goes, declarator-goes, initial_block-goes, gate-goes}
use Rattle.bind_laws.proofs.Blocks.{always-goes}
use Rattle.bind_laws.proofs.Ports.{child-goes}

all : {A : Type 0} (xs : List A) → Every (λ _. ⊤) xs
all [] = tt
all (x ∷ xs) = (tt, all xs)

stays : (w : Whole) (b c : Bound) → ◌≡◌ {A = Result Bound BindErr} (Ok b) (Ok c) → Goes w b c
stays w b c is = subst (Goes w b) (Ok-same is) (goes-nowhere w b)

written-goes : (w : Whole) (g : Ground) (names : Names) (x : PlainItem) (b c : Bound) → NamesFit w.signals names
    → ItemFits names x → written_of g names x b ≡ Ok c → Goes w b c
written-goes w g names (net_item s kind _ _ _ list) b c fit fits is =
    each-keeps (Goes w) (HasSignal names kind) (declarator_of g.frame (home_of g s) names kind) (goes-nowhere w) (goes-on w)
    (λ d m n has step. declarator-goes w g.frame (home_of g s) names kind d m n fit has step) list b c fits is
written-goes w g names (assign_item s _ list) b c fit fits is =
    each-keeps (Goes w) (λ _. ⊤) (assignment_of g.frame (home_of g s) names) (goes-nowhere w) (goes-on w)
    (λ a m n _ step. assignment-goes w g.frame (home_of g s) names a m n fit step) list b c (all list) is
written-goes w g names (gate_item s kind _ list) b c fit fits is =
    each-keeps (Goes w) (λ _. ⊤) (gate_of g.frame (home_of g s) names kind) (goes-nowhere w) (goes-on w)
    (λ x m n _ step. gate-goes w g.frame (home_of g s) names kind x m n fit step) list b c (all list) is
written-goes w g names (initial_item _ body) b c fit fits is = initial_block-goes w names body b c fit is
written-goes w g names (port_item _ _ _ _ _ _) b c fit fits is = stays w b c is
written-goes w g names (integer_item _ _) b c fit fits is = stays w b c is
written-goes w g names (genvar_item _ _) b c fit fits is = stays w b c is
written-goes w g names (parameter_item _ _ _ _) b c fit fits is = stays w b c is
written-goes w g names (always_item _ _ _) b c fit fits is = stays w b c is
written-goes w g names (instance_item _ _ _ _) b c fit fits is = stays w b c is
written-goes w g names (generate_item _ _) b c fit fits is = stays w b c is
written-goes w g names (loop_item _ _ _) b c fit fits is = stays w b c is
written-goes w g names (if_item _ _ _) b c fit fits is = stays w b c is
written-goes w g names (if_else_item _ _ _ _) b c fit fits is = stays w b c is

-- ---- children
abbrev ChildrenFit : Whole → List (List Socket) → Type 0
ChildrenFit w children = Every (Every (SocketFits w.signals)) children

next-fits : (w : Whole) (children : List (List Socket)) → ChildrenFit w children
    → Every (SocketFits w.signals) (ports_next children)
next-fits w [] fits = tt
next-fits w (ports ∷ rest) fits = fits.0

after-fit : (w : Whole) (children : List (List Socket)) → ChildrenFit w children
    → ChildrenFit w (children_after children)
after-fit w [] fits = tt
after-fit w (ports ∷ rest) fits = fits.1

-- what is bound of a scope, and the children that are still to come
pub record ItemsGo (w : Whole) (met last : Met) : Type 0 where
  pub goes : Goes w met.bound last.bound
  pub children : ChildrenFit w last.children

then-goes : (w : Whole) (met next last : Met) → Goes w met.bound next.bound → ItemsGo w next last → ItemsGo w met last
then-goes w met next last first rest = record { goes = goes-on w met.bound next.bound last.bound first rest.goes; children = rest.children }

mutual
  pub copies-go : (w : Whole) (g : Ground) (names : Names) (scopes : Scopes) (copies : Copies) (met last : Met)
      → g.frame.clock ≡ w.clock → NamesFit w.signals names
      → CopiesFit w.signals names scopes copies → ChildrenFit w met.children
      → bound_copies g names scopes copies met ≡ Ok last → ItemsGo w met last
  copies-go w g names scopes no_copy met last clock fit fits children is = subst (ItemsGo w met) (Ok-same is) (record { goes = goes-nowhere w met.bound; children = children })
  copies-go w g names scopes (copy (written item) rest) met last clock fit fits children is =
      between (written_of g names item met.bound) (λ b. bound_copies g names scopes rest (with_bound met b)) last (ItemsGo w met last) is λ b first more.
      then-goes w met (with_bound met b) last (written-goes w g names item met.bound b fit fits.0 first)
      (copies-go w g names scopes rest (with_bound met b) last clock fit fits.1 children more)
  copies-go w g names scopes (copy (always s sensitivity body) rest) met last clock fit fits children is =
      between (always_block g.frame (home_of g s) names s sensitivity body met.bound) (λ b. bound_copies g names scopes rest (with_bound met b)) last (ItemsGo w met last) is λ b first more.
      then-goes w met (with_bound met b) last (always-goes w g.frame (home_of g s) names s sensitivity body met.bound b fit fits.0 clock first)
      (copies-go w g names scopes rest (with_bound met b) last clock fit fits.1 children more)
  copies-go w g names scopes (copy (child s c) rest) met last clock fit fits children is =
      between (child_of g.frame (home_of g s) names (ports_next met.children) c met.bound)
      (λ b. bound_copies g names scopes rest (record { children = children_after met.children; bound = b })) last (ItemsGo w met last) is λ b first more.
      then-goes w met (record { children = children_after met.children; bound = b }) last
      (child-goes w g.frame (home_of g s) names (ports_next met.children) c met.bound b fit (next-fits w met.children children) first)
      (copies-go w g names scopes rest (record { children = children_after met.children; bound = b }) last clock fit fits (after-fit w met.children children) more)
  copies-go w g names scopes (copy (inner block) rest) met last clock fit fits children is =
      between (bound_block g names (scope_next scopes) block met) (bound_copies g names (scopes_after scopes) rest) last (ItemsGo w met last) is λ next first more.
      let own = block-goes w g names (scope_next scopes) block met next clock fit fits.0 children first in
      then-goes w met next last own.goes (copies-go w g names (scopes_after scopes) rest next last clock fit fits.1 own.children more)
  copies-go w g names scopes (copy (turn variable value block) rest) met last clock fit fits children is =
      between (bound_block g (turned variable value names) (scope_next scopes) block met) (bound_copies g names (scopes_after scopes) rest) last (ItemsGo w met last) is λ next first more.
      let own = block-goes w g (turned variable value names) (scope_next scopes) block met next clock (fits.0, fit) fits.1 children first in
      then-goes w met next last own.goes (copies-go w g names (scopes_after scopes) rest next last clock fit fits.2 own.children more)

  block-goes : (w : Whole) (g : Ground) (names : Names) (own : Scope) (block : Block) (met last : Met)
      → g.frame.clock ≡ w.clock → NamesFit w.signals names
      → BlockFits w.signals names own block → ChildrenFit w met.children → bound_block g names own block met ≡ Ok last
      → ItemsGo w met last
  block-goes w g names own (scope path _ copies) met last clock fit fits children is =
      copies-go w (inside g path) (within (names_of own) names) (scopes_of own) copies met last clock (within-fit w.signals (names_of own) names fits.0 fit) fits.1 children is
