-- The addresses of an array, which has one word at least.
use Rattle.std.proofs.Common.{◌≡◌, ℕ, ◌≤◌, Bool, true, false, List, length, refl, sym, ap, ◌∙◌, subst, arith}
use Rattle.std.specs.Prelude.{if◌then◌else◌, nat_le, ℤ, Result, Ok, Err}
use Rattle.loc_base.specs.declared.span.Span.{Span}
use Rattle.v_syntax.specs.PartTree.{PlainRange}
use Rattle.v_syntax.specs.ItemTree.{PlainDeclarator}
use Rattle.v_sizes.specs.Selected.{count_between}
use Rattle.v_binding.specs.declared.error.BindErr.{BindErr}
use Rattle.v_binding.specs.declared.error.BindErr.TheVariants as fault
use Rattle.v_binding.specs.Steps.{◌>>=◌}
use Rattle.v_binding.specs.Names.{Names}
use Rattle.v_binding.specs.Expressions.{index_at}
use Rattle.v_binding.specs.Addresses.{Addresses, addresses_between, addresses_at}
use Rattle.v_syntax.specs.declared.declaration.Identifier.{Identifier}
use Rattle.v_sizes.specs.declared.meaning.Meaning.TheVariants as meaning
use Rattle.v_hierarchy.specs.declared.bounds.Bounds.{Bounds}
use Rattle.v_hierarchy.specs.declared.signal.Signal.{Signal as Declared}
use Rattle.v_hierarchy.specs.Constants.{width}
use Rattle.v_hierarchy.specs.Names.{bounds_of}
use Rattle.v_binding.specs.declared.known.Use.TheVariants.{Stands as stands}
use Rattle.v_binding.specs.Names.{Known, known}
use Rattle.v_binding.specs.Signals.{Scoping, Ground, path_in, words, with_array, addresses_or_one, one_address}
use Rattle.bind_signals.specs.Words.{word_of}
use Rattle.bind_signals.specs.Scopings.{with_numbered}

pub addresses-ok : (names : Names) (d : PlainDeclarator) (r : PlainRange) (a : Addresses) → addresses_at names d.site.span r ≡ Ok a → a ≡ addresses_or_one names d r
addresses-ok names d r a is = step (addresses_at names d.site.span r) is
  where
    step : (found : Result Addresses BindErr) → found ≡ Ok a → a ≡ (elim found [
      | Ok x ↦ x
      | Err _ ↦ one_address
    ])
    step (Ok x) e = let same : x ≡ a = cc in sym same
    step (Err e) same = cc

pub addresses-err : (names : Names) (d : PlainDeclarator) (r : PlainRange) (e : BindErr) → addresses_at names d.site.span r ≡ Err e → one_address ≡ addresses_or_one names d r
addresses-err names d r e is = step (addresses_at names d.site.span r) is
  where
    step : (found : Result Addresses BindErr) → found ≡ Err e → one_address ≡ (elim found [
      | Ok x ↦ x
      | Err _ ↦ one_address
    ])
    step (Ok x) same = cc
    step (Err x) same = refl

one-more : (left right : ℤ) → 1 ≤ count_between left right
one-more left right = omega arith

-- what a range gives has a word
pub addresses-least : (names : Names) (span : Span) (r : PlainRange) (a : Addresses) → addresses_at names span r ≡ Ok a → 1 ≤ a.count
addresses-least names span r a is = first (index_at names r.left) is
  where
    last : (left right : ℤ) (few : Bool) → (if few then Ok (addresses_between left right) else Err (fault.Range span)) ≡ Ok a → 1 ≤ a.count
    last left right true e = let same : addresses_between left right ≡ a = cc in subst (λ x. 1 ≤ x.count) same (one-more left right)
    last left right false e = cc

    second : (left : ℤ) (right : Result ℤ BindErr)
        → (right >>= λ right. if nat_le (count_between left right) 1024 then Ok (addresses_between left right) else Err (fault.Range span)) ≡ Ok a → 1 ≤ a.count
    second left (Ok right) e = last left right (nat_le (count_between left right) 1024) e
    second left (Err x) e = cc

    first : (left : Result ℤ BindErr)
        → (left >>= λ left. index_at names r.right >>= λ right. if nat_le (count_between left right) 1024 then Ok (addresses_between left right) else Err (fault.Range span)) ≡ Ok a → 1 ≤ a.count
    first (Ok left) e = second left (index_at names r.right) e
    first (Err x) e = cc

pub ruleset array_laws = (addresses-ok, addresses-err, addresses-least)

-- an array more, from its parts
pub array_added : (g : Ground) (name : Identifier) (s : Declared) (a : Addresses) (met after : Scoping) (path : List ℕ) (b : Bounds) (w home : ℕ) (k : Known)
    → after ≡ with_numbered (words (word_of path s.signed b home name.site.span) a.count a.low) k met
    → path ≡ path_in g.prefix name.name → b ≡ bounds_of s → w ≡ width b → home ≡ length met.signals
    → k ≡ known name.name (stands (meaning.Array home a.count a.low w s.signed b.left b.right)) → after ≡ with_array g name s a met
array_added g name s a met after path b w home k is is_path is_range is_width is_home is_known =
    is
    ∙ ap (λ x. with_numbered (words (word_of path s.signed b home name.site.span) a.count a.low) x met) is_known
    ∙ ap (λ x. with_numbered (words (word_of x s.signed b home name.site.span) a.count a.low) (known name.name (stands (meaning.Array home a.count a.low w s.signed b.left b.right))) met) is_path
    ∙ ap (λ x. with_numbered (words (word_of (path_in g.prefix name.name) s.signed b home name.site.span) a.count a.low) (known name.name (stands (meaning.Array home a.count a.low x s.signed b.left b.right))) met) is_width
    ∙ ap (λ x. with_numbered (words (word_of (path_in g.prefix name.name) s.signed x home name.site.span) a.count a.low) (known name.name (stands (meaning.Array home a.count a.low (width x) s.signed x.left x.right))) met) is_range
    ∙ ap (λ x. with_numbered (words (word_of (path_in g.prefix name.name) s.signed (bounds_of s) x name.site.span) a.count a.low) (known name.name (stands (meaning.Array x a.count a.low (width (bounds_of s)) s.signed (bounds_of s).left (bounds_of s).right))) met) is_home
