-- `with`: the items, which take no memory, are those of the given list and the value.
use Rattle.std.proofs.Common.{List, [], ◌∷◌, ◌++◌, refl}
use seplogic.Ra.Ura.{Ura}
use mir.Syntax.{Fn, a_type}
use mir.Val.{Val, vptr, vstruct, vcons, vnil}
use mir.MapTy.{inst_fn}
use base.Logic.{SProp, ent}
use base.Fml.{Fml}
use prog.Memory.{Memory}
use prog.Routine.{Routine}
use prog.Wp.{Calls, Loops, WpFn, Tables}
use contract.Monad.{Fun}
use contract.Running.{tables, tables_of}
use sound.WpLaws.{WpFn-mono}
use types.Logic.{Logic}
use types.Kit.{‵, raw, ◌⊛◌, prop, ◌$◌, ◌∵◌, !, qed, move, keep, drop, split, fsplit, fjoin, feq_l, regoal, use0, suffices, done}
use types.Part.{agg}
use types.Run.{enter, returns, no_more, and_then}
use types.ByLocal.{alloc_all, pass_all, free_all, look_at, get, sets}
use denote.Exit.{yes}
use denote.RattleType.{RattleType, owns}
use denote.Param.{param, layouts}
use denote.Param.Laws.{Laws}
use denote.Shadow.{makes_shadow}
use denote.Builtin.{RefOf}
use denote.Signature.{plain, types_at, type_at}
use denote.Steps.{nothing}
use denote.Triple.Clauses.{Clauses, closing}
use denote.Triple.Entry.{Res, alive}
use denote.Triple.Spec.{Meets, triple_of}
use denote.Triple.Table.{entered}
use denote.Triple.Walked.{says, Stays, stay_dropped, walk_of, ends_at, walk_Meets, Goes-dropped}
use Rattle.wh_events.specs.contracts.ghost_list.GhostList as GhostList
use Rattle.wh_events.specs.contracts.ghost_list.GhostList.with.{ended, clauses}
use Rattle.wh_events.specs.contracts.ghost_list.GhostList.with.Key.{name as #self}
use Rattle.wh_events.proofs.ghost_list.GhostList.with.Statement as stated
use Rattle.wh_events.proofs.ghost_list.GhostList.with.Code as code

-- the function at the type of the items; it lets both references go
module _ (T : RattleType) where
  abbrev item : RattleType
  item = param 0 T

  abbrev body : Fn
  body = inst_fn (layouts (a_type ∷ []) (T, tt)) code.function

  abbrev kept : Stays (ended T).signature.params (ended T).kept
  kept = (stay_dropped _ yes, (stay_dropped _ yes, tt))

module _ (T : RattleType) (laws : Laws T) {M : Type 1} {𝓤 : Ura M} (𝓛 : Logic 𝓤) (at_mem : Memory → SProp 𝓤) (run : Routine → Fun 𝓤) where
  open 𝓛 use {H}

  abbrev held : Clauses 𝓤 (ended T)
  held = clauses T 𝓛 at_mem run

  module _ (C : Calls 𝓤 H) (Λ : Loops 𝓤 H) (z : (walk_of 𝓛 (ended T) (kept T) held).Ghost) where
    abbrev Post : Val → SProp 𝓤
    Post = (walk_of 𝓛 (ended T) (kept T) held).post z

    abbrev lives : SProp 𝓤
    lives = alive 𝓛 (ended T).signature z.0.0 z.0.1

    -- the value that is returned is shown with the items of the list and the value after them
    walks : ent 𝓤 ((walk_of 𝓛 (ended T) (kept T) held).pre z) (WpFn 𝓤 H C Λ (body T) ((walk_of 𝓛 (ended T) (kept T) held).args z) Post)
    walks =
        let args = z.0.3 in
        let passed = z.0.4 in
        let list : Val = vptr args.0.ref_ptr.0 args.0.ref_ptr.1 in
        let value : Val = vptr args.1.0.ref_ptr.0 args.1.0.ref_ptr.1 in
        let made : Val = vstruct (vcons (vstruct vnil) vnil) in
        let shown : Res (ended T).signature z.0.0 = record { marker = record {}; items = args.0.now.items ++ args.1.0.now ∷ [] } in
        let owned : Fml = (type_at (ended T).signature.result z.0.0).own_val shown (made ∷ []) in
        qed 𝓛 ((raw lives ⊛ ‵ (owns (types_at (ended T).signature.params z.0.0) args passed)) ∷ raw ((held z.0.0 args).requires z.1) ∷ []) ∵
        keep ! (0 ∷ []) $ split ! $ move ! (1 ∷ []) $ fsplit ! $ fsplit ! $ feq_l ! (λ is_list. drop ! $ fsplit ! $ fsplit ! $ feq_l ! (λ is_value. drop ! $ drop ! $
        regoal ! (λ (vs : List Val). prop (WpFn 𝓤 H C Λ (body T) (vs ++ (passed.1.0 ++ [])) Post)) is_list refl $
        regoal ! (λ (vs : List Val). prop (WpFn 𝓤 H C Λ (body T) ((list ∷ []) ++ (vs ++ [])) Post)) is_value refl $
        enter ! C Λ (body T) (list ∷ value ∷ []) Post $ alloc_all ! (λ l. pass_all ! refl ((tt, tt), ((tt, tt), tt)) $
        sets ! (agg ! (no_more !)) refl (tt, tt) $ sets ! (agg ! (and_then ! (get ! refl) (no_more !))) refl (tt, (tt, tt)) $
        returns ! (look_at ! 0 refl) $ free_all ! refl $
        use0 𝓛 (‵ owned) (makes_shadow 𝓛 owned ((λ vss. (tt, ((λ uss. (tt, tt)), tt))), tt) (((vstruct vnil ∷ [], tt), (refl, ((tt, (refl, tt)), tt))), tt)) $
        suffices ! _ (ends_at 𝓛 (ended T) (kept T) held z made shown (tt, (tt, tt)) (tt, (tt, tt))) $ says ! refl $
        nothing ! $ nothing ! $ fjoin ! $ nothing ! $ fjoin ! $ move ! (2 ∷ 0 ∷ 1 ∷ []) $ done !)))

  meets : (𝓣 : Tables 𝓤 H) → Meets 𝓛 (ended T).signature (WpFn 𝓤 H 𝓣.C 𝓣.Λ (body T)) (closing 𝓛 (ended T) held)
  meets 𝓣 =
      walk_Meets 𝓛 (ended T) (kept T)
      (Goes-dropped 𝓛 3 (RefOf (0 ∷ []) tt (plain (λ _. GhostList.the_row (item T))) (λ _. tt)) yes (λ κs x f. refl), (Goes-dropped 𝓛 3 (RefOf (1 ∷ []) tt (plain (λ _. item T)) (λ _. tt)) yes (λ κs x f. refl), tt))
      held
      (WpFn 𝓤 H 𝓣.C 𝓣.Λ (body T)) (WpFn-mono 𝓤 H 𝓛.laws 𝓣 (body T)) (walks 𝓣.C 𝓣.Λ)

pub with_spec : {M : Type 1} → stated.statement M
unfolding tables_of
with_spec 𝓤 𝓛 𝓜 𝓡 wired T laws =
    let 𝓣 : Tables 𝓤 𝓛.H = tables_of 𝓤 𝓛.H 𝓜 (tables 𝓤 𝓛.H 𝓜 𝓡 𝓡.env) in
    entered 𝓤 𝓛.H (triple_of 𝓛 (ended T).signature (closing 𝓛 (ended T) (clauses T 𝓛 𝓜.mem 𝓡.returns))) 𝓣.C 𝓣.Λ (#self (layouts (a_type ∷ []) (T, tt))) (body T) (code.unfolded 𝓤 𝓛.H 𝓜 𝓡 wired (T, tt))
    (meets T laws 𝓛 𝓜.mem 𝓡.returns 𝓣)
