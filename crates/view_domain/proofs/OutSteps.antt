-- What is put out.
use Rattle.std.proofs.Common.{◌≡◌, List, Option, Result, Ok, Err, OnErr, sym, subst}
use Rattle.packet.specs.Messages.{Ask, none_of}
use Rattle.packet.specs.Outboxes.{EdgeView, packets_on}
use Rattle.packet.specs.declared.request.Marker.{Marker}
use Rattle.packet.proofs.Sends.{still_clear}
use Rattle.view_domain.specs.Outboxes.{ShownView, OutboxView, IsClear}

pub always_err : {A B : Type 0} {P : Type 0} (r : Result A B) → P → OnErr r P
always_err (Ok a) p = tt
always_err (Err e) p = p

module _ (now was : List (EdgeView Ask)) (shown : Option ShownView) (ack : Option Marker) (out : OutboxView) (is : record { requests = was; shown = shown; ack = ack } ≡ out) (clear : IsClear out) (same : packets_on now ≡ packets_on was) where
  pub edges_clear : packets_on now ≡ none_of now
  edges_clear = still_clear now was same (subst IsClear (sym is) clear).requests

  pub still_silent : IsClear (record { requests = now; shown = shown; ack = ack })
  still_silent = let c = subst IsClear (sym is) clear in record { requests = edges_clear; shown = c.shown; ack = c.ack }
