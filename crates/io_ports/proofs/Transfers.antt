-- Bytes that go from a reader or to a writer in several calls.
use Rattle.std.proofs.Common.{◌≡◌, ℕ, ◌+◌, ◌-◌, ◌<◌, List, [], ◌++◌, length, take, drop, Option, Some, None, ap, sym, refl, subst, arith, ◌∙◌, append-nil, append_assoc, length-append, length-drop}
use Rattle.std.specs.Io.KnownBytes.{Appends, Keeps, Consumes, IsAtEnd}
use Rattle.std.proofs.lemmas.List.{drop-drop, take-append-drop}
use Rattle.std.proofs.Math.Seq.{take-add, take-length}
use Rattle.io_ports.specs.Transfer.{AppendsSome, IsAllOf, IsMoreThan}

-- ---- to a writer
pub appends_nothing : (known : Option (List ℕ)) → Appends known known []
appends_nothing None = tt
appends_nothing (Some bytes) = sym (append-nil bytes)

pub appends_more : (old mid new : Option (List ℕ)) (first second : List ℕ) → Appends old mid first → Appends mid new second → Appends old new (first ++ second)
appends_more None mid new first second a b = tt
appends_more (Some xs) None new first second a b = absurd a
appends_more (Some xs) (Some ys) None first second a b = absurd b
appends_more (Some xs) (Some ys) (Some zs) first second a b = b ∙ ap (λ front. front ++ second) a ∙ append_assoc xs first second

pub appends_kept : (old mid new : Option (List ℕ)) (bytes : List ℕ) → Appends old mid bytes → Keeps mid new → Appends old new bytes
appends_kept None mid new bytes a k = tt
appends_kept (Some xs) None new bytes a k = absurd a
appends_kept (Some xs) (Some ys) None bytes a k = absurd k
appends_kept (Some xs) (Some ys) (Some zs) bytes a k = k ∙ a

-- a front of a piece was written, and the rest is left
pub record Sent (old new : Option (List ℕ)) (piece rest : List ℕ) : Type 0 where
  pub count : ℕ
  pub appended : Appends old new (take count piece)
  pub left : rest ≡ drop count piece

pub sent_none : (known : Option (List ℕ)) (piece : List ℕ) → Sent known known piece piece
sent_none known piece = record { count = 0; appended = appends_nothing known; left = refl }

-- `next` is what a slice from n on is
pub sent_more : (old mid new : Option (List ℕ)) (piece rest : List ℕ) (n : ℕ) → Sent old mid piece rest → Appends mid new (take n rest) →
    Sent old new piece (take (length rest - n) (drop n rest))
sent_more old mid new piece rest n sent more = record {
  count = sent.count + n;
  appended = subst (Appends old new)
      (ap (λ bytes. take sent.count piece ++ take n bytes) sent.left ∙ sym (take-add sent.count n piece))
      (appends_more old mid new (take sent.count piece) (take n rest) sent.appended more);
  left = whole ∙ ap (drop n) sent.left ∙ drop-drop n sent.count piece;
}
  where
    whole : take (length rest - n) (drop n rest) ≡ drop n rest
    whole = ap (λ k. take k (drop n rest)) (sym (length-drop n rest)) ∙ take-length (drop n rest)

pub sent_all : (old new : Option (List ℕ)) (piece rest : List ℕ) → Sent old new piece rest → rest ≡ [] → Appends old new piece
sent_all old new piece rest sent none = subst (Appends old new) whole sent.appended
  where
    whole : take sent.count piece ≡ piece
    whole = sym (append-nil (take sent.count piece)) ∙ ap (λ bytes. take sent.count piece ++ bytes) (sym none ∙ sent.left) ∙ take-append-drop sent.count piece

pub sent_front : (old mid new : Option (List ℕ)) (piece rest : List ℕ) → Sent old mid piece rest → Keeps mid new → AppendsSome old new piece
sent_front old mid new piece rest sent kept = record { count = sent.count; appended = appends_kept old mid new (take sent.count piece) sent.appended kept }

-- ---- from a reader
pub consumes_nothing : (known : Option (List ℕ)) → Consumes known known []
consumes_nothing None = tt
consumes_nothing (Some bytes) = refl

pub consumes_more : (old mid new : Option (List ℕ)) (first second : List ℕ) → Consumes old mid first → Consumes mid new second → Consumes old new (first ++ second)
consumes_more None mid new first second a b = tt
consumes_more (Some xs) None new first second a b = absurd a
consumes_more (Some xs) (Some ys) None first second a b = absurd b
consumes_more (Some xs) (Some ys) (Some zs) first second a b = a ∙ ap (λ rest. first ++ rest) b ∙ sym (append_assoc first second zs)

-- all was read
pub all_was_read : (old mid new : Option (List ℕ)) (text : List ℕ) → Consumes old mid text → Consumes mid new [] → IsAtEnd new → IsAllOf old text
all_was_read None mid new text a b end = tt
all_was_read (Some xs) None new text a b end = absurd a
all_was_read (Some xs) (Some ys) None text a b end = absurd b
all_was_read (Some xs) (Some ys) (Some zs) text a b end = sym (a ∙ ap (λ rest. text ++ rest) (b ∙ end) ∙ append-nil text)

-- more than the limit was read
pub more_was_read : (old new : Option (List ℕ)) (text : List ℕ) (limit : ℕ) → Consumes old new text → limit < length text → IsMoreThan limit old
more_was_read None new text limit a more = tt
more_was_read (Some xs) None text limit a more = absurd a
more_was_read (Some xs) (Some ys) text limit a more = omega (arith, ap length a, length-append text ys)
