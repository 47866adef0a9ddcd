-- Texts under other names than those that writes name stay as they were.
use Rattle.std.proofs.Common.{ℕ, zero, suc, ◌≡◌, ◌≢◌, inl, inr, Bool, true, false, List, [], ◌∷◌, ◌++◌, take, Option, Some}
use Rattle.std.proofs.Common.{refl, sym, ◌∙◌, subst, cond}
use Rattle.std.specs.Prelude.{slice_get}
use Rattle.std.specs.Str.{bytes_eq}
use Rattle.std.specs.Cmp.Lexicographic.{bytes_decides}
use Rattle.write_order.specs.Writes.{AreDone, IsPartOf, Outputs, StopsIn, Write, begin_text, print_piece, put_piece}
use Rattle.write_order.specs.Writes.{text_after, text_behind}

-- ---- equal names
pub same-name : (name : List ℕ) → bytes_eq name name ≡ true
same-name name = (bytes_decides name name).1 refl

pub other-name : (name other : List ℕ) → name ≢ other → bytes_eq name other ≡ false
other-name name other apart = at (bytes_eq name other) refl
  where
    at : (b : Bool) → bytes_eq name other ≡ b → b ≡ false
    at true e = absurd (apart ((bytes_decides name other).0 e))
    at false e = refl

module _ (name : List ℕ) where
  -- a write that doesn't name the text
  abbrev pub Spares : Write → Type 0
  Spares (begin_text other) = name ≢ other
  Spares (put_piece other piece) = name ≢ other
  Spares (print_piece piece) = Unit {0}

  abbrev pub AllSpare : List Write → Type 0
  AllSpare [] = Unit {0}
  AllSpare (write ∷ writes) = Spares write × AllSpare writes

  spare-append : (one next : List Write) → AllSpare one → AllSpare next → AllSpare (one ++ next)
  spare-append [] next all there = there
  spare-append (w ∷ one) next all there = (all.0, spare-append one next all.1 there)

  pub spare-take : (n : ℕ) (writes : List Write) → AllSpare writes → AllSpare (take n writes)
  spare-take zero writes all = tt
  spare-take (suc n) [] all = tt
  spare-take (suc n) (w ∷ writes) all = (all.0, spare-take n writes all.1)

  spare-at : (writes : List Write) (n : ℕ) (w : Write) → slice_get writes n ≡ Some w → AllSpare writes → Spares w
  spare-at [] n w at all = absurd (cc)
  spare-at (v ∷ writes) zero w at all = subst Spares (cc) all.0
  spare-at (v ∷ writes) (suc n) w at all = spare-at writes n w at all.1

  spare-part : (w : Write) (part : List Write) → IsPartOf w part → Spares w → AllSpare part
  spare-part (begin_text other) part (inl none) spares = subst AllSpare (sym none) tt
  spare-part (begin_text other) part (inr all) spares = subst AllSpare (sym all) (spares, tt)
  spare-part (put_piece other piece) part (count, is) spares = subst AllSpare (sym is) (spares, tt)
  spare-part (print_piece piece) part (count, is) spares = subst AllSpare (sym is) (tt, tt)

  stays-at : (b : Bool) (new text : Option (List ℕ)) → b ≡ false → cond b new text ≡ text
  stays-at true new text e = absurd (cc)
  stays-at false new text e = refl

  one-stays : (w : Write) (text : Option (List ℕ)) → Spares w → text_after name w text ≡ text
  one-stays (begin_text other) text apart = stays-at (bytes_eq name other) _ text (other-name name other apart)
  one-stays (put_piece other piece) text apart = stays-at (bytes_eq name other) _ text (other-name name other apart)
  one-stays (print_piece piece) text spares = refl

  pub stays : (writes : List Write) (text : Option (List ℕ)) → AllSpare writes → text_behind name writes text ≡ text
  stays [] text all = refl
  stays (w ∷ writes) text all = stays writes (text_after name w text) all.1 ∙ one-stays w text all.0

  pub done-stays : (writes : List Write) (o : Outputs) → AllSpare writes → AreDone writes o → o.now_written name ≡ o.written name
  done-stays writes o all done = done.texts name ∙ stays writes (o.written name) all

  pub stops-stays : (writes : List Write) (o : Outputs) → AllSpare writes → StopsIn writes o → o.now_written name ≡ o.written name
  stops-stays writes o all stops =
      done-stays (take stops.count writes ++ stops.part) o
      (spare-append (take stops.count writes) stops.part (spare-take stops.count writes all)
      (spare-part stops.failed stops.part stops.is_part (spare-at writes stops.count stops.failed stops.at all)))
      stops.done
