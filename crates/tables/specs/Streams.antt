-- The record of a stream, and what the calls make of it. Assumes nothing.
--   no_stream           a slot that was never opened
--   waits_in s f        whether the stream is open in the macroflow f and waits
--   load_in s f         its outstanding and open bytes there
--   flight_in s f       its outstanding bytes there
--   quiet_upto s t      whether s has been quiet for at least as long as t
--   opened s f w l t    opened at t in f, with the weight w and the life l; the totals stay
--   requested s t       one request more, at t
--   granted s p         one request less, and p open bytes more
--   settled s g n t     g open bytes less, n bytes charged and outstanding, at t
--   expired s g         g open bytes less
--   reported s r l t    r bytes received and l lost, which are no longer outstanding, at t
--   moved s f           in the macroflow f, with all its numbers
--   closed s            closed: nothing waits, and what is outstanding is abandoned
use Rattle.std.specs.Prelude.{ℕ, ◌+◌, ◌-◌, Bool, true, false, cond, ◌&&◌, ◌==◌, nat_le, nat_lt}
use Rattle.tables.specs.declared.stream.Stream.{Stream}

abbrev pub no_stream : Stream
no_stream = record {
  opened = false;
  macroflow = 0;
  weight = 0;
  life = 0;
  waiting = 0;
  reserved = 0;
  outstanding = 0;
  quiet = 0;
  charged = 0;
  received = 0;
  lost = 0;
  abandoned = 0;
}

abbrev pub is_open : Stream → Bool
is_open s = s.opened

abbrev pub is_in : Stream → ℕ → Bool
is_in s f = s.opened && s.macroflow == f

abbrev pub waits_in : Stream → ℕ → Bool
waits_in s f = s.opened && (s.macroflow == f && nat_lt 0 s.waiting)

abbrev pub load_in : Stream → ℕ → ℕ
load_in s f = cond (is_in s f) (s.outstanding + s.reserved) 0

abbrev pub flight_in : Stream → ℕ → ℕ
flight_in s f = cond (is_in s f) s.outstanding 0

abbrev pub quiet_upto : Stream → Stream → Bool
quiet_upto s t = nat_le s.quiet t.quiet

abbrev pub opened : Stream → ℕ → ℕ → ℕ → ℕ → Stream
opened s f w l t = record {
  opened = true;
  macroflow = f;
  weight = w;
  life = l;
  waiting = 0;
  reserved = 0;
  outstanding = 0;
  quiet = t;
  charged = s.charged;
  received = s.received;
  lost = s.lost;
  abandoned = s.abandoned;
}

abbrev pub requested : Stream → ℕ → Stream
requested s t = record {
  opened = s.opened;
  macroflow = s.macroflow;
  weight = s.weight;
  life = s.life;
  waiting = s.waiting + 1;
  reserved = s.reserved;
  outstanding = s.outstanding;
  quiet = t;
  charged = s.charged;
  received = s.received;
  lost = s.lost;
  abandoned = s.abandoned;
}

abbrev pub granted : Stream → ℕ → Stream
granted s p = record {
  opened = s.opened;
  macroflow = s.macroflow;
  weight = s.weight;
  life = s.life;
  waiting = s.waiting - 1;
  reserved = s.reserved + p;
  outstanding = s.outstanding;
  quiet = s.quiet;
  charged = s.charged;
  received = s.received;
  lost = s.lost;
  abandoned = s.abandoned;
}

abbrev pub settled : Stream → ℕ → ℕ → ℕ → Stream
settled s g n t = record {
  opened = s.opened;
  macroflow = s.macroflow;
  weight = s.weight;
  life = s.life;
  waiting = s.waiting;
  reserved = s.reserved - g;
  outstanding = s.outstanding + n;
  quiet = t;
  charged = s.charged + n;
  received = s.received;
  lost = s.lost;
  abandoned = s.abandoned;
}

abbrev pub expired : Stream → ℕ → Stream
expired s g = record {
  opened = s.opened;
  macroflow = s.macroflow;
  weight = s.weight;
  life = s.life;
  waiting = s.waiting;
  reserved = s.reserved - g;
  outstanding = s.outstanding;
  quiet = s.quiet;
  charged = s.charged;
  received = s.received;
  lost = s.lost;
  abandoned = s.abandoned;
}

abbrev pub reported : Stream → ℕ → ℕ → ℕ → Stream
reported s r l t = record {
  opened = s.opened;
  macroflow = s.macroflow;
  weight = s.weight;
  life = s.life;
  waiting = s.waiting;
  reserved = s.reserved;
  outstanding = s.outstanding - (r + l);
  quiet = t;
  charged = s.charged;
  received = s.received + r;
  lost = s.lost + l;
  abandoned = s.abandoned;
}

abbrev pub moved : Stream → ℕ → Stream
moved s f = record {
  opened = s.opened;
  macroflow = f;
  weight = s.weight;
  life = s.life;
  waiting = s.waiting;
  reserved = s.reserved;
  outstanding = s.outstanding;
  quiet = s.quiet;
  charged = s.charged;
  received = s.received;
  lost = s.lost;
  abandoned = s.abandoned;
}

abbrev pub closed : Stream → Stream
closed s = record {
  opened = false;
  macroflow = s.macroflow;
  weight = s.weight;
  life = s.life;
  waiting = 0;
  reserved = s.reserved;
  outstanding = 0;
  quiet = s.quiet;
  charged = s.charged;
  received = s.received;
  lost = s.lost;
  abandoned = s.abandoned + s.outstanding;
}
