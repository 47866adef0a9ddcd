-- `of` makes the struct of no fields, at the bytes that its clause names. No code holds them, so the walk picks them.
use Rattle.std.proofs.Common.{List, [], ◌∷◌, ◌<◌, ◌^◌, ℕ, length, refl}
use seplogic.Ra.Ura.{Ura}
use mir.Syntax.{named}
use mir.Val.{Val, vstruct, vnil}
use base.Logic.{SProp, ent, emp, via, fst∗}
use base.Fml.{Lft, Share, ftrue, flft}
use prog.Memory.{Memory}
use prog.Routine.{Routine}
use prog.Wp.{Calls, Loops, WpFn, Tables}
use contract.Monad.{Fun}
use contract.Running.{tables, tables_of}
use sound.WpLaws.{WpFn-mono}
use types.Logic.{Logic}
use types.Kit.{‵, ◌⊛◌, ◌$◌, ◌∵◌, !, qed, keep, suffices, done}
use types.Part.{agg}
use types.Run.{enter, returns, no_more}
use types.ByLocal.{alloc_all, pass_all, free_all, look_at, sets}
use denote.Builtin.{u8}
use denote.Exit.{yes}
use denote.RattleType.{owns}
use denote.Ref.{Bor}
use denote.Shadow.{pure_i}
use denote.Signature.{plain}
use denote.Slice.{ShrSlice, slice_val, shr_slice_vals, shr_slice_Tells}
use denote.Triple.Entry.{on_entry}
use denote.Triple.Spec.{Meets, triple_of}
use denote.Triple.Table.{entered}
use denote.Triple.Walked.{says, Stays, stay_none_slice, walk_of, AllGo, Goes-none_slice, Walks, ends_at, walked, walk_Meets}
use Rattle.io_ports.specs.declared.kept_name.KeptName.{KeptName}
use Rattle.io_ports.specs.contracts.kept_name.KeptName as T
use Rattle.io_ports.specs.contracts.kept_name.KeptName.of.Key.{name as #it}
use Rattle.io_ports.specs.contracts.kept_name.KeptName.of as it
use Rattle.io_ports.proofs.kept_name.KeptName.of.Statement as stated
use Rattle.io_ports.proofs.kept_name.KeptName.of.Code as code

-- the machine value of the struct, and the parameter, which is lent and comes back as it was
abbrev made : Val
made = vstruct vnil

abbrev stayed : Stays it.ended.signature.params it.ended.kept
stayed = (stay_none_slice (0 ∷ []) tt (plain (λ _. u8)) yes, tt)

module _ {M : Type 1} {𝓤 : Ura M} (𝓛 : Logic 𝓤) (at_mem : Memory → SProp 𝓤) (run : Routine → Fun 𝓤) where
  open 𝓛 use {H}

  module _ (C : Calls 𝓤 H) (Λ : Loops 𝓤 H) (κ : Lft) (q : Share) (name : Bor (List ℕ)) where
    abbrev args : List Val
    args = slice_val name.ref_ptr (length name.now) ∷ []

    abbrev kept : KeptName
    kept = record { bytes = name.now }

    abbrev Post : Val → SProp 𝓤
    Post = (walk_of 𝓛 it.ended stayed (it.clauses 𝓛 at_mem run)).post (((κ, tt), (q, tt), tt, (name, tt), (args, tt)), tt)

    walk : length name.now < 2 ^ 64 → ent 𝓤 (on_entry 𝓛 it.signature (κ, tt) (q, tt) (name, tt) (args, tt)) (WpFn 𝓤 H C Λ code.function args Post)
    walk fits =
        qed 𝓛 ((‵ (flft κ q) ⊛ ‵ ftrue) ∷ ‵ (owns (ShrSlice (named 0) κ u8 ∷ []) (name, tt) (args, tt)) ∷ []) ∵
        enter ! C Λ code.function args _ $
        alloc_all ! (λ l. pass_all ! refl ((tt, (tt, (record { fits = fits }, tt))), tt) $
        sets ! (agg ! (no_more !)) refl (tt, tt) $
        returns ! (look_at ! 0 refl) $ free_all ! refl $
        pure_i ! ((T.the_row).own_val kept (made ∷ [])) ((λ vss. (tt, tt)), tt) ((tt, (refl, tt)), tt) $
        suffices ! _ (ends_at 𝓛 it.ended stayed (it.clauses 𝓛 at_mem run) (((κ, tt), (q, tt), tt, (name, tt), (args, tt)), tt) made kept (tt, tt) (tt, tt)) $ says ! refl $
        keep ! (1 ∷ 2 ∷ 0 ∷ []) $ done !)

  walks : (C : Calls 𝓤 H) (Λ : Loops 𝓤 H) → Walks 𝓛 it.ended stayed (WpFn 𝓤 H C Λ code.function) (it.clauses 𝓛 at_mem run)
  walks C Λ = walked 𝓛 it.ended stayed (it.clauses 𝓛 at_mem run) (WpFn 𝓤 H C Λ code.function) (λ κs. (shr_slice_vals, tt)) (λ κs. (shr_slice_Tells (named 0) κs.0 u8, tt))
      (λ κs qs bounds a _ are. via 𝓤 _ (fst∗ 𝓤 _ (emp 𝓤)) (walk C Λ κs.0 qs.0 a.0 are.0.0.1.0))

  goes : AllGo 𝓛 1 it.signature.params it.ended.kept stayed
  goes = (Goes-none_slice 𝓛 1 (0 ∷ []) tt (plain (λ _. u8)) yes, tt)

  meets : (𝓣 : Tables 𝓤 H) → Meets 𝓛 it.signature (WpFn 𝓤 H 𝓣.C 𝓣.Λ code.function) (it.spec 𝓛 at_mem run)
  meets 𝓣 = walk_Meets 𝓛 it.ended stayed goes (it.clauses 𝓛 at_mem run) (WpFn 𝓤 H 𝓣.C 𝓣.Λ code.function) (WpFn-mono 𝓤 H 𝓛.laws 𝓣 code.function) (walks 𝓣.C 𝓣.Λ)

pub of_spec : {M : Type 1} → stated.statement M
unfolding tables_of
of_spec 𝓤 𝓛 𝓜 𝓡 wired =
    let 𝓣 : Tables 𝓤 𝓛.H = tables_of 𝓤 𝓛.H 𝓜 (tables 𝓤 𝓛.H 𝓜 𝓡 𝓡.env) in
    entered 𝓤 𝓛.H (triple_of 𝓛 it.signature (it.spec 𝓛 𝓜.mem 𝓡.returns)) 𝓣.C 𝓣.Λ #it code.function
    (code.unfolded 𝓤 𝓛.H 𝓜 𝓡 wired) (meets 𝓛 𝓜.mem 𝓡.returns 𝓣)
