-- Definitions for JSON that only contracts of private functions cite.
use Rattle.wh_phrases.specs.declared.keys.Keys as code
use Rattle.wh_phrases.specs.Json.{Keys}

-- the keys of the code, as those of the specification
abbrev pub keys_seen : code.Keys → Keys
keys_seen keys = record { id = keys.id.now; name = keys.name.now }
