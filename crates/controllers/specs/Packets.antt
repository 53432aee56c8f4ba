-- The sizes that a packet may have, and the making of a controller. Assumes nothing.
--   is_packet p            64 to 9,000 bytes
--   PacketRange p         the same as a fact
--   packet_refused         the refusal of any other size: number 19, about no slot and no macroflow
--   checked p              a packet size, or its refusal
--   made fresh p           what making a controller answers: the numbers of a new one, or the refusal
--   numbers_of numbers o   the numbers of what was made
use Rattle.std.specs.Prelude.{ℕ, ◌≤◌, Bool, cond, ◌&&◌, Ok, Err, Result, nat_le}
use Rattle.meaning.specs.declared.refusal.Reason.TheVariants.{CannotBeMade}
use Rattle.meaning.specs.declared.refusal.Refusal.{Refusal}
use Rattle.meaning.specs.Refusals.{about_nothing}

abbrev pub is_packet : ℕ → Bool
is_packet p = nat_le 64 p && nat_le p 9000

abbrev pub PacketRange : ℕ → Type 0
PacketRange p = (64 ≤ p) × (p ≤ 9000)

abbrev pub packet_refused : Refusal
packet_refused = about_nothing CannotBeMade

abbrev pub checked : ℕ → Result ℕ Refusal
checked p = cond (is_packet p) (Ok p) (Err packet_refused)

abbrev pub made : {S : Type 0} → (ℕ → S) → ℕ → Result S Refusal
made fresh p = cond (is_packet p) (Ok (fresh p)) (Err packet_refused)

abbrev pub numbers_of : {C S : Type 0} → (C → S) → Result C Refusal → Result S Refusal
numbers_of numbers (Ok c) = Ok (numbers c)
numbers_of numbers (Err e) = Err e
