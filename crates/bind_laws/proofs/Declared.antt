-- Numbering a declaration: signals and names only grow, and its names stand for signals of the whole design.
use Rattle.std.proofs.Common.{◌≡◌, ℕ, ◌≤◌, Bool, true, false, List, [], ◌∷◌, length, Option, Some, None, refl, sym, subst}
use Rattle.std.specs.Prelude.{ℤ, if◌then◌else◌}
use Rattle.design_core.specs.declared.signal.SignalKind.TheVariants as kind
use Rattle.design_core.specs.WellFormed.{signal_fits}
use Rattle.v_syntax.specs.declared.declaration.Identifier.{Identifier}
use Rattle.v_syntax.specs.declared.item.NetKind.{NetKind}
use Rattle.v_syntax.specs.declared.item.NetKind.TheVariants as net_kind
use Rattle.v_syntax.specs.Tree.{Tree}
use Rattle.v_syntax.specs.PartTree.{PlainRange}
use Rattle.v_syntax.specs.ItemTree.{PlainDeclarator}
use Rattle.v_sizes.specs.declared.meaning.Meaning.TheVariants as meaning
use Rattle.v_hierarchy.specs.declared.signal.Signal.{Signal as Declared}
use Rattle.v_hierarchy.specs.declared.bounds.Bounds.{Bounds}
use Rattle.v_hierarchy.specs.Constants.{width}
use Rattle.v_hierarchy.specs.Stands.{IsRange}
use Rattle.v_hierarchy.specs.Names.{Entry, Standing, signal, array, integer, genvar, constant, bounds_of, meaning_of}
use Rattle.v_hierarchy.specs.Names as declared
use Rattle.v_hierarchy.specs.Parameters.{is_among}
use Rattle.v_binding.specs.declared.known.Use.TheVariants.{Stands as stands}
use Rattle.v_binding.specs.Names.{Known, Names, known, within, turned}
use Rattle.v_binding.specs.Names as bound
use Rattle.v_binding.specs.Addresses.{Addresses}
use Rattle.v_binding.specs.Signals.{Numbered, path_in, signal_of, kind_of, word_path, words, Scoping, Ground, with_signal, addresses_or_one, with_array, declared_as, with_declarator}
use Rattle.v_binding.specs.Standing.{EntriesStand}
use Rattle.bind_laws.specs.Every.{Every, IfGiven}
use Rattle.bind_laws.specs.Fit.{UseFits, NamesFit, Begins}
use Rattle.bind_laws.specs.Scopes.{NamesSignal, HasSignal}
use Rattle.bind_laws.specs.OfText.{IsSignal, DeclaratorOf}
use Rattle.bind_laws.proofs.Lists.{Every-append, Every-push, begins-itself, begins-more, begins-through, begins-at}
use Rattle.bind_laws.proofs.Numbers.{Final, number-there, signal-fits, words-there, words-few, words-every, addresses-some}
use Rattle.bind_laws.proofs.ScopeNames.{entry-stands, Agrees, is_listed, listed-front, listed-last, named-signal}

-- ---- what numbering keeps
abbrev pub NumberedFits : Numbered → Type 0
NumberedFits n = signal_fits n.signal ≡ true

-- signals and names grow by what fits the whole design and stands for what is declared
pub record Numbers (w : Final) (entries : List Entry) (before after : Scoping) : Type 0 where
  pub signals : Begins before.signals after.signals
  pub names : Begins before.names after.names
  pub fit : Begins after.signals w.numbered → NamesFit w.signals before.names → NamesFit w.signals after.names
  pub agree : Every (Agrees entries) before.names → Every (Agrees entries) after.names
  pub fits : Every NumberedFits before.signals → Every NumberedFits after.signals

pub numbers-nothing : (w : Final) (entries : List Entry) (met : Scoping) → Numbers w entries met met
numbers-nothing w entries met =
    record { signals = begins-itself met.signals; names = begins-itself met.names; fit = λ _ fit. fit; agree = λ all. all; fits = λ all. all }

pub numbers-on : (w : Final) (entries : List Entry) (a b c : Scoping) → Numbers w entries a b → Numbers w entries b c
    → Numbers w entries a c
numbers-on w entries a b c one other = record {
  signals = begins-through a.signals b.signals c.signals one.signals other.signals;
  names = begins-through a.names b.names c.names one.names other.names;
  fit = λ begins fit. other.fit begins (one.fit (begins-through b.signals c.signals w.numbered other.signals begins) fit);
  agree = λ all. other.agree (one.agree all);
  fits = λ all. other.fits (one.fits all);
}

-- ---- one declaration
pub signal-numbers : (w : Final) (top : Bool) (g : Ground) (name : Identifier) (s : Declared) (met : Scoping)
    → IsRange (bounds_of s)
    → Numbers w g.entries met (with_signal top g name s met)
signal-numbers w top g name s met range =
    let b = bounds_of s in
    let n : Numbered = record { signal = signal_of (path_in g.prefix name.name) (kind_of top s) s.signed b; home = length met.signals; span = name.site.span } in
    let k : Known = known name.name (stands (meaning.Signal (length met.signals) (width b) s.signed b.left b.right)) in
    record {
      signals = begins-more met.signals (n ∷ []);
      names = begins-more met.names (k ∷ []);
      fit = λ begins fit. Every-push (λ (x : Known). UseFits w.signals x.use_of) met.names k fit
          (range, number-there w (length met.signals) n (begins-at met.signals n w.numbered begins));
      agree = λ all. Every-push (Agrees g.entries) met.names k all
          (λ _ _. record { signal = length met.signals; width = width b; signed = s.signed; left = b.left; right = b.right; is = refl });
      fits = λ all. Every-push NumberedFits met.signals n all (signal-fits (path_in g.prefix name.name) (kind_of top s) s.signed b range);
    }

pub signal-listed : (top : Bool) (g : Ground) (name : Identifier) (s : Declared) (met : Scoping)
    → is_listed (with_signal top g name s met).names name.name ≡ true
signal-listed top g name s met =
    listed-last met.names (known name.name (stands (meaning.Signal (length met.signals) (width (bounds_of s)) s.signed (bounds_of s).left (bounds_of s).right)))

array-numbers : (w : Final) (g : Ground) (name : Identifier) (s : Declared) (r : PlainRange) (a : Addresses)
    (met : Scoping) → IsRange (bounds_of s) → 1 ≤ a.count
    → declared.find name.name g.entries ≡ Some (array s r) → Numbers w g.entries met (with_array g name s a met)
array-numbers w g name s r a met range some found = record {
  signals = begins-more met.signals (words one a.count a.low);
  names = begins-more met.names (k ∷ []);
  fit = λ begins fit. Every-push (λ (x : Known). UseFits w.signals x.use_of) met.names k fit (
    (range, some, words-few w met.signals one a.count a.low begins),
    λ i below. words-there w met.signals one a.count a.low (width b) b.left b.right (λ _. (refl, refl, refl)) begins i below,
  );
  agree = λ all. Every-push (Agrees g.entries) met.names k all (λ x is. cc);
  fits = λ all. Every-append NumberedFits met.signals (words one a.count a.low) all
      (words-every NumberedFits one a.count a.low (λ address. signal-fits (word_path (path_in g.prefix name.name) address) kind.Reg s.signed b range));
}
  where
    b : Bounds
    b = bounds_of s

    one : ℤ → Numbered
    one = λ address. record { signal = signal_of (word_path (path_in g.prefix name.name) address) kind.Reg s.signed (bounds_of s); home = length met.signals; span = name.site.span }

    k : Known
    k = known name.name (stands (meaning.Array (length met.signals) a.count a.low (width b) s.signed b.left b.right))

-- ---- declarators
declared-numbers : (w : Final) (g : Ground) (d : PlainDeclarator) (met : Scoping) → EntriesStand g.entries
    → Numbers w g.entries met (declared_as g d (declared.find d.name.name g.entries) met)
declared-numbers w g d met stand = by (declared.find d.name.name g.entries) refl
  where
    by : (o : Option Standing) → declared.find d.name.name g.entries ≡ o
        → Numbers w g.entries met (declared_as g d o met)
    by (Some (signal s)) found = signal-numbers w false g d.name s met (entry-stands g.entries d.name.name (signal s) stand found)
    by (Some (array s r)) found =
        array-numbers w g d.name s r (addresses_or_one g.names d r) met (entry-stands g.entries d.name.name (array s r) stand found).0 (addresses-some g.names d r) found
    by (Some integer) found = numbers-nothing w g.entries met
    by (Some genvar) found = numbers-nothing w g.entries met
    by (Some (constant _ _)) found = numbers-nothing w g.entries met
    by None found = numbers-nothing w g.entries met

pub declarator-numbers : (w : Final) (g : Ground) (d : PlainDeclarator) (met : Scoping) → EntriesStand g.entries
    → Numbers w g.entries met (with_declarator g d met)
declarator-numbers w g d met stand = by (is_among d.name.name g.ports)
  where
    by : (port : Bool)
        → Numbers w g.entries met (if port then met else declared_as g d (declared.find d.name.name g.entries) met)
    by true = numbers-nothing w g.entries met
    by false = declared-numbers w g d met stand

-- the ports of a scope are among its names
abbrev pub PortsListed : List (List ℕ) → Names → Type 0
PortsListed ports names = (name : List ℕ) → is_among name ports ≡ true → is_listed names name ≡ true

pub listed-on : (xs ys : Names) (name : List ℕ) → Begins xs ys → is_listed xs name ≡ true → is_listed ys name ≡ true
listed-on xs ys name begins listed = subst (λ ks. is_listed ks name ≡ true) (sym begins.is) (listed-front xs begins.rest name listed)

abbrev names_in : Scoping → Names
names_in met = met.names

declarator-listed : (g : Ground) (d : PlainDeclarator) (met : Scoping) → PortsListed g.ports met.names
    → IsSignal g.entries d.name.name
    → is_listed (with_declarator g d met).names d.name.name ≡ true
declarator-listed g d met ports is = by (is_among d.name.name g.ports) refl
  where
    by : (port : Bool) → is_among d.name.name g.ports ≡ port
        → is_listed (names_in (if port then met else declared_as g d (declared.find d.name.name g.entries) met)) d.name.name
        ≡ true
    by true among = ports d.name.name among
    by false among = subst (λ o. is_listed (names_in (declared_as g d o met)) d.name.name ≡ true) (sym is.is) (signal-listed false g d.name is.declared met)

-- what binding asks of a declarator, once all names of its scope are there
pub declarator-has : (w : Final) (g : Ground) (kind : NetKind) (d : PlainDeclarator) (met : Scoping) (final outer : Names)
    → PortsListed g.ports met.names
    → DeclaratorOf g.entries kind d → Begins (with_declarator g d met).names final → Every (Agrees g.entries) final
    → HasSignal (within final outer) kind d
declarator-has w g net_kind.Wire d met final outer ports of begins agree = tt
declarator-has w g net_kind.Reg d met final outer ports of begins agree = by d.value of
  where
    by : (o : Option Tree) → IfGiven o (IsSignal g.entries d.name.name)
        → IfGiven o (NamesSignal (bound.find (within final outer) d.name.name))
    by None of = tt
    by (Some value) of =
        named-signal g.entries of.declared d.name.name final outer of.is agree
        (listed-on (with_declarator g d met).names final d.name.name begins (declarator-listed g d met ports of))
