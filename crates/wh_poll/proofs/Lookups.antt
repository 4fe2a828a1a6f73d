-- A run that is looked up by a key has that key.
use Rattle.std.proofs.Common.{◌≡◌, true, false, cond, List, [], ◌∷◌, Some, refl, sym}
use Rattle.std.specs.Prelude.{IfSome, option_map}
use Rattle.std.specs.Map.{lookup_entry}
use Rattle.wh_events.specs.declared.key.RunKey.{RunKey}
use Rattle.wh_events.specs.Keys.{same_key, same_key-true}
use Rattle.wh_host.specs.Cache.{Entry, held_of}

pub lookup-own : (key : RunKey) (runs : List Entry) → IfSome (option_map held_of (lookup_entry (same_key key) runs)) (λ run. run.key ≡ key)
lookup-own key [] = tt
lookup-own key (x ∷ xs) = (elim (same_key key x.0) as (λ b. same_key key x.0 ≡ b → IfSome (option_map held_of (cond b (Some x) (lookup_entry (same_key key) xs))) (λ run. run.key ≡ key)) [
  | true ↦ λ same. sym (same_key-true key x.0 same)
  | false ↦ λ other. lookup-own key xs
]) refl
