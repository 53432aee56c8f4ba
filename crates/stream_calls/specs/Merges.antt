-- What a merge answers, and what it leaves. Assumes nothing.
--   Placed S             the core and the schedulers, which a stream that moves changes together
--   with_stream m i s    the record of the slot i becomes s
--   moved_slot k i f p       the stream of the slot i goes to the macroflow f, with all its numbers
--   moved_from k a b i p     the same to b, only if it is open in a
--   moved_below k a b n p    every open slot of the macroflow a below n goes to b, the lowest first
--   merge_questions, merge   a merge
use Rattle.std.specs.Prelude.{ℕ, zero, suc, cond, not, List, [], ◌∷◌, length, None, Ok, ◌==◌, nat_lt, slice_set}
use Rattle.meaning.specs.declared.refusal.Reason.TheVariants as reason
use Rattle.meaning.specs.Scheduling.{Scheduling}
use Rattle.tables.specs.declared.core_state.Core.{Core}
use Rattle.tables.specs.declared.stream.Stream.{Stream}
use Rattle.tables.specs.Streams.{is_in, moved}
use Rattle.tables.specs.Core.{stream, timely, about_macroflow, at_time}
use Rattle.tables.specs.Replies.{Reply, reply, Question, q, asked, answered}
use Rattle.stream_calls.specs.Calls.{Done, passed_on}

abbrev pub with_stream : Core → ℕ → Stream → Core
with_stream m i s = record { streams = slice_set m.streams i s; macroflows = m.macroflows; capacity = m.capacity; issued = m.issued; last = m.last }

pub record Placed (S : Type 0) : Type 0 where
  pub core : Core
  pub schedulers : List S

abbrev pub placed : {S : Type 0} → Core → List S → Placed S
placed m ss = record { core = m; schedulers = ss }

module _ {S : Type 0} (k : Scheduling S) where
  abbrev pub moved_slot : ℕ → ℕ → Placed S → Placed S
  moved_slot i f p = let s = stream p.core i in placed (with_stream p.core i (moved s f)) (passed_on k p.schedulers i f s)

  abbrev pub moved_from : ℕ → ℕ → ℕ → Placed S → Placed S
  moved_from a b i p = cond (is_in (stream p.core i) a) (moved_slot i b p) p

  unfoldable pub moved_below : ℕ → ℕ → ℕ → Placed S → Placed S
  moved_below a b zero p = p
  moved_below a b (suc n) p = moved_from a b n (moved_below a b n p)

-- the answer of an accepted merge, with what it leaves
abbrev pub replied : {S : Type 0} → ℕ → Placed S → Reply Done (List S)
replied t p = reply (Ok tt) (at_time p.core t) p.schedulers

-- every open slot of the macroflow a goes to the macroflow b at the time t; the schedulers are n
abbrev pub merge_questions : Core → ℕ → ℕ → ℕ → ℕ → List Question
merge_questions m n t a b =
    q (n == m.macroflows) reason.TablesDisagree
    ∷ q (timely m t) reason.NotTimely
    ∷ q (nat_lt a m.macroflows) reason.NoSuchMacroflow
    ∷ q (nat_lt b m.macroflows) reason.NoSuchMacroflow
    ∷ q (not (a == b)) reason.SameMacroflow
    ∷ []

abbrev pub merge : {S : Type 0} → Scheduling S → Core → List S → ℕ → ℕ → ℕ → Reply Done (List S)
merge k m ss t a b =
    answered (asked (merge_questions m (length ss) t a b) (about_macroflow m None a) (tt {0})) m ss
    (λ _. replied t (moved_below k a b 32 (placed m ss)))
