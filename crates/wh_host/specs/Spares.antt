-- A spare seat beside those of the workers.
use Rattle.std.specs.Prelude.{◌+◌, ◌&&◌, Bool, nat_lt, List, [], ◌∷◌, Option, Some, None, if◌then◌else◌}
use Rattle.wh_slots.specs.declared.sizes.Config.{Config}

-- the sizes of a host with one seat more, if it is wanted, there is a seat, and a host may have one more
abbrev pub with_spare : Config → Bool → Config
with_spare config is_wanted =
    if is_wanted && (nat_lt 0 config.seats && nat_lt config.seats 64)
    then record config { seats = config.seats + 1 }
    else config

-- the spare seat, if there is one, as a list
abbrev pub spare_seats : {A : Type 0} → Option A → List A
spare_seats None = []
spare_seats (Some seat) = seat ∷ []
