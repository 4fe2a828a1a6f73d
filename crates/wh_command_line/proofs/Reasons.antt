-- The reasons of refusals follow from one another.
use Rattle.std.proofs.Common.{◌≡◌, ◌⊎◌, List, [], inl, inr, subst, true, Option, Some, None, Result, Ok, Err, refl}
use Rattle.std.specs.Prelude.{IfOk, option_map}
use Rattle.clap.specs.Words.{App, HasKind, IsAmong, Row, Text, fault_of, is_simple_and_free}
use Rattle.clap.proofs.OnLiterals.{clap_on_literals}
use Rattle.clap.specs.declared.error.Error.{Error}
use Rattle.clap.specs.declared.error.kind.ErrorKind.{ErrorKind}
use Rattle.clap.specs.declared.error.kind.ErrorKind.TheVariants.{OutOfMemory}
use Rattle.wh_command_line.specs.Lines.{program}
use Rattle.wh_command_line.specs.Refusals.{IfBad}
use Rattle.wh_command_line.specs.Plans.{IsHelp, IsRequest, IsMistake, IsRead, kinds_of, AsksText, HasMistake, IsAskedBy}
use Rattle.wh_command_line.specs.declared.command_line.Plan.{Plan}
use Rattle.wh_command_line.specs.declared.command_line.Refusal.{Refusal}
use Rattle.wh_command_line.specs.declared.command_line.Refusal.TheVariants as refusals

-- a reason that holds is one of every refusal
pub if_bad : (reason : Type 0) (refusal : Refusal) → reason → IfBad reason refusal
if_bad reason (refusals.BadLine text) holds = holds
if_bad reason refusals.FewSlots holds = tt
if_bad reason refusals.OutOfMemory holds = tt

-- a reason leads to another
pub if_bad_then : (reason other : Type 0) → (reason → other) → (refusal : Refusal) → IfBad reason refusal → IfBad other refusal
if_bad_then reason other leads (refusals.BadLine text) has = leads has
if_bad_then reason other leads refusals.FewSlots has = tt
if_bad_then reason other leads refusals.OutOfMemory has = tt

-- no argument of the program has a rule on another
pub program_is_free : is_simple_and_free program ≡ true
unfolding clap_on_literals program
program_is_free = refl

-- what clap may answer for the words
pub kinds_by : (app : App) (words : List Text) (error : Error) → app ≡ program → HasKind (fault_of app words) error
    → HasKind (kinds_of words) error
unfolding kinds_of
kinds_by app words error same has = subst (λ (a : App). HasKind (fault_of a words) error) same has

-- clap reads the words
pub read_by : (app : App) (words : List Text) → app ≡ program → fault_of app words ≡ [] → IsRead words
unfolding kinds_of
read_by app words same none = subst (λ (a : App). fault_of a words ≡ []) same none

-- what clap answers, where it is a request, is one that the words make
asks_by : (words : List Text) (kind : ErrorKind) → (kind ≡ OutOfMemory) ⊎ IsAmong kind (kinds_of words) → IsRequest kind → AsksText words
asks_by words kind (inr among) request = (kind, among, request)
asks_by words kind (inl none) (inl help) = absurd cc
asks_by words kind (inl none) (inr version) = absurd cc

-- the help that is given is asked for
pub help_by : (words : List Text) (kind : ErrorKind) → (kind ≡ OutOfMemory) ⊎ IsAmong kind (kinds_of words) → (result : Result Plan Refusal)
    → IfOk result IsHelp → IfOk result (λ _. IsRequest kind) → IfOk result (IsAskedBy words)
help_by words kind has (Ok plan) help request = inl (help, asks_by words kind has request)
help_by words kind has (Err e) help request = tt

-- what clap answers, where it is a mistake, is one that the words have
pub mistaken_by : (words : List Text) (kind : ErrorKind) → (kind ≡ OutOfMemory) ⊎ IsAmong kind (kinds_of words) → IsMistake kind → HasMistake words
mistaken_by words kind (inr among) mistake = (kind, among, mistake)
mistaken_by words kind (inl none) mistake = absurd (mistake.2 none)

-- where nothing was found, there is nothing
pub none_found : (found : Option (Text × List Row)) → None ≡ option_map (λ (p : Text × List Row). p.1) found → found ≡ None
none_found None none = refl
none_found (Some p) none = absurd cc
