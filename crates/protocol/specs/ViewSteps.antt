-- What a view shard does with one message.
use Rattle.std.specs.Prelude.{ℕ, zero, suc, ◌+◌, ◌-◌, cond, List, [], ◌∷◌, map, filter, length, Option, Some, None, slice_set, nat_le}
use Rattle.std.specs.List.{range_with_len}
use Rattle.row.specs.Cells.{Datum}
use Rattle.plan.specs.Layouts.{view_at}
use Rattle.partial.specs.States.{is_hole}
use Rattle.packet.specs.Readers.{tag_of}
use Rattle.packet.specs.Messages.{Ask, Sent, Mark, none_of, to_all, to_one}
use Rattle.packet.specs.Keys.{Keys, begin_at, give_at, open_at, drop_at, has_piece}
use Rattle.packet.specs.Marks.{Gathering, come, complete, partly}
use Rattle.protocol.specs.Bases.{last_number}
use Rattle.protocol.specs.Views.{View, ToView, packet, want, order, Done}

-- ---- keys
-- the keys that stage shard s evicts go: filled ones become holes, of gathers its piece goes
abbrev pub drop_all : ℕ → List Datum → Keys → Keys
drop_all s [] keys = keys
drop_all s (k ∷ ks) keys = drop_all s ks (drop_at s k keys)

-- those whose piece goes are asked for again, in order
abbrev pub again : ℕ → List Datum → Keys → List Datum
again s ks keys = filter (λ k. has_piece s (keys.at k)) ks

-- the piece of stage shard s for a key, if there is one
abbrev pub give_piece : ℕ → Option Datum → Keys → Keys
give_piece s None keys = keys
give_piece s (Some k) keys = give_at s k keys

-- the key that was filled first goes
abbrev pub oldest_open : List Datum → Keys → Keys
oldest_open [] keys = keys
oldest_open (k ∷ ks) keys = open_at k keys

-- so many keys go, one after the other
abbrev pub shrink : ℕ → Keys → Keys
shrink zero keys = keys
shrink (suc n) keys = shrink n (oldest_open keys.order keys)

-- keys go until there are no more filled ones than the cap
abbrev pub capped : ℕ → Keys → Keys
capped cap keys = shrink (length keys.order - cap) keys

-- ---- requests
-- what it asks for by a key of its view
abbrev pub ask : View → Datum → Ask
ask v k = record { tag = tag_of v.view; key = k }

-- so many more requests; the count stays at the greatest number
abbrev pub counted : ℕ → ℕ → ℕ
counted asked more = cond (nat_le (asked + more) last_number) (asked + more) last_number

-- ---- one message
-- with these keys, and nothing is put out
abbrev pub quiet : View → Keys → Done
quiet v keys = record { view = record v { keys = keys }; requests = none_of (range_with_len 0 v.plan.stages); acks = [] }

-- the markers, with one more from stage shard s of n, if there is one
abbrev pub marks_with : ℕ → ℕ → Option Mark → List Gathering → List Gathering
marks_with n s None marks = marks
marks_with n s (Some m) marks = come n s m marks

-- a packet of stage shard s: what it evicts goes, then its piece is taken, then the cap is kept; and its marker
abbrev pub packet_taken : View → ℕ → Sent → Done
packet_taken v s p =
    let asks = map (ask v) (again s p.evicts v.keys) in
    let marks = marks_with v.plan.stages s p.marker v.marks in
    let keys = capped (view_at v.plan v.view).cap (give_piece s p.piece (drop_all s p.evicts v.keys)) in
    record {
      view = record v { cut = slice_set v.cut s p.to; keys = keys; asked = counted v.asked (length asks); marks = partly marks };
      requests = to_one v.plan.stages s asks;
      acks = complete marks;
    }

-- a key begins to wait, and every stage shard is asked
abbrev pub begins : View → Datum → Done
begins v k = record {
  view = record v { keys = begin_at v.plan.stages k v.keys; asked = counted v.asked v.plan.stages };
  requests = to_all v.plan.stages (ask v k ∷ []);
  acks = [];
}

-- one message: of the keys that are wanted a hole begins to wait; an order makes a filled key a hole
abbrev pub step : View → ToView → Done
step v (packet s p) = packet_taken v s p
step v (want k) = cond (is_hole (v.keys.at k)) (begins v k) (quiet v v.keys)
step v (order k) = quiet v (open_at k v.keys)
