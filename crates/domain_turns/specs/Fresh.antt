-- What a base shard is before its first message.
use Rattle.std.specs.Prelude.{ℕ, false, replicate}
use Rattle.base_domain.specs.Domains.{Domain as BaseDomain}

-- a base shard at this front, to which none of so many sessions has written
abbrev pub fresh_base : {F : Type 0} → F → ℕ → BaseDomain F
fresh_base front sessions = record { front = front; next = replicate sessions 0; stopped = false }
