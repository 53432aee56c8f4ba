-- Moves and merges keep what the manager holds in step with the history.
--   passed_on_is   the schedulers of a slot that goes to another macroflow
--   next_move      a move
--   next_merge     a merge
use Rattle.std.proofs.Common.{◌≡◌, ℕ, zero, suc, ◌<◌, ◌≤◌, Bool, true, false, cond, ◌&&◌, eqb, ltb, List, ◌∷◌, length, get_or, set, sym, refl, ap, ◌∙◌, subst, ap₂, ⊎_elim, arith}
use Rattle.std.proofs.lemmas.List.{get_or-set_same, get_or-set_other, length-set}
use Rattle.std.proofs.lemmas.Bool.{cond-true, cond-false, ne_eqb, eqb-true, eqb-false, ltb-true, not-true, and_parts, and_right, cases_eq, cond_both}
use Rattle.meaning.specs.Scheduling.{Scheduling, SchedulingLaws}
use Rattle.tables.specs.declared.stream.Stream.{Stream}
use Rattle.tables.specs.Streams as stream
use Rattle.tables.specs.Core.{about_macroflow, at_time, put}
use Rattle.tables.specs.Core as core
use Rattle.stream_calls.specs.Calls.{passed_on}
use Rattle.stream_calls.specs.Merges.{Placed, placed, with_stream, moved_slot, moved_below}
use Rattle.manager.specs.declared.call.Call.TheVariants.{Move, Merge}
use Rattle.manager.specs.State.{State, state}
use Rattle.manager.specs.Steps.{step}
use Rattle.law.specs.Effects.SlotEvent.{Moved}
use Rattle.law.specs.Effects.Effect.{Merged}
use Rattle.law.specs.Slots.{weight, waits}
use Rattle.law.specs.History.{History, of_slot, open_in, is_in, waits_in, changed, changed_to}
use Rattle.law.proofs.Ways.{by_test, at_set}
use Rattle.law.proofs.Calls.{move_cases, merge_cases}
use Rattle.law.proofs.SlotFacts.{SlotKept, waits_is, is_in_is, kept_moved}
use Rattle.law.proofs.Changes.{changed_same}
use Rattle.law.proofs.Ledger.{ledger_same}
use Rattle.law.proofs.Kept.{Host, StreamsKept, same_merged, scheduler_of, Kept, controller_still, scheduler_at}
use Rattle.law.proofs.Streaming.{Next, kept_with, kept_nothing, kept_at, is_there}

-- F schedulers in a list, which are those of `at`
module _ {S : Type 0} (d : Scheduling S) (F : ℕ) (ss : List S) (at : ℕ → S) (size : length ss ≡ F) (is : (f : ℕ) → f < F → get_or ss f d.spare ≡ at f) where
  told_two : (p f g : ℕ) → p < F → f < F → g < F → (p ≡ f → ⊥) → (G G' : S → S)
      → get_or (set (set ss p (G (get_or ss p d.spare))) f (G' (get_or (set ss p (G (get_or ss p d.spare))) f d.spare))) g d.spare ≡ cond (eqb p g) (G (at g)) (cond (eqb f g) (G' (at g)) (at g))
  told_two p f g here there l apart G G' =
      let z = d.spare in
      let first : List S = set ss p (G (get_or ss p z)) in
      let second : get_or first f z ≡ at f = get_or-set_other ss p f _ z (λ q. apart (sym q)) ∙ is f there in
      at_set first f g (G' (get_or first f z)) z (λ c x y. y ≡ cond (eqb p x) (G (at x)) (cond c (G' (at x)) (at x))) (omega (arith, length-set ss p (G (get_or ss p z))))
      (ap G' second ∙ ap (λ c. cond c (G (at f)) (G' (at f))) (sym (ne_eqb p f apart)))
      (λ _. at_set ss p g (G (get_or ss p z)) z (λ c x y. y ≡ cond c (G (at x)) (at x)) (omega arith) (ap G (is p here)) (λ _. is g l))

  -- the slot i with the record x goes from its macroflow to f
  module _ (i f : ℕ) (x : Stream) (here : x.macroflow < F) (there : f < F) (apart : x.macroflow ≡ f → ⊥) (on : x.opened ≡ true) where
    -- in the macroflow g it waited before, or waits now
    told_right : (g : ℕ) → (a b : Bool) → (a ≡ true → b ≡ true → ⊥) → cond a (d.lowered (at g) i) (cond b (d.raised (at g) i x.weight) (at g)) ≡ changed d (at g) i x.weight (true && (a && true)) (true && (b && true))
    told_right g true true no_both = absurd (no_both refl refl)
    told_right g true false no_both = refl
    told_right g false true no_both = refl
    told_right g false false no_both = refl

    pub passed_on_is : (g : ℕ) → g < F → get_or (passed_on d ss i f x) g d.spare ≡ changed d (at g) i x.weight (stream.waits_in x g) (stream.waits_in (stream.moved x f) g)
    passed_on_is g l =
        let p = x.macroflow in
        let w : Bool = ltb 0 x.waiting in
        cond_both w _ _ (λ xs. get_or xs g d.spare ≡ changed d (at g) i x.weight (stream.waits_in x g) (stream.waits_in (stream.moved x f) g))
        (λ some.
        told_two p f g here there l apart (λ y. d.lowered y i) (λ y. d.raised y i x.weight)
        ∙ told_right g (eqb p g) (eqb f g) (λ a b. apart (eqb-true p g a ∙ sym (eqb-true f g b)))
        ∙ ap₂ (λ o c. changed d (at g) i x.weight (o && (eqb p g && c)) (o && (eqb f g && c))) (sym on) (sym some))
        (λ none.
        is g l
        ∙ sym (changed_same d (at g) i x.weight _ _ (cc (and_right (eqb p g) w none, and_right (eqb f g) w none))))

pub passed_on_size : {S : Type 0} (d : Scheduling S) (ss : List S) (i f : ℕ) (x : Stream) → length (passed_on d ss i f x) ≡ length ss
passed_on_size d ss i f x =
    cond_both (ltb 0 x.waiting) _ _ (λ xs. length xs ≡ length ss) (λ _. length-set _ f _ ∙ length-set ss _ _) (λ _. refl)

module _ {C S : Type 0} (H : Host C S) (laws : SchedulingLaws 32 H.scheduling) (h : History) (s : State C S) (K : Kept H h s) where
  abbrev at_slot : ℕ → Stream
  at_slot i = core.stream s.core i

  pub next_move : (t i f : ℕ) → Next H h (Move t i f) (step H.control H.scheduling s (Move t i f))
  next_move t i f =
      let x = at_slot i in
      let d = H.scheduling in
      let ss = s.schedulers in
      move_cases H.control d s (Next H h (Move t i f)) t i f (λ n _. kept_nothing H laws h s K)
      (λ p.
      let near = ltb-true i 32 p.1.1.0 in
      let there : f < H.macroflows = omega (arith, ltb-true f _ p.1.1.1.0, K.macroflows_is) in
      let on = p.1.1.1.1.0 in
      let apart = eqb-false _ _ (not-true _ p.1.1.1.1.1.0) in
      let old = K.streams.slots i near in
      let new = kept_moved old f there in
      kept_at H laws h s K t i (Moved f) (stream.moved x f) s.controllers (passed_on d ss i f x) tt near new
      (record {
        controllers_size = K.parts.controllers_size;
        schedulers_size = passed_on_size d ss i f x ∙ K.parts.schedulers_size;
        controls = λ g l. K.parts.controls g l ∙ sym (controller_still H h t i (Moved f) g (λ n c. refl));
        schedules = λ g l.
            passed_on_is d H.macroflows ss (scheduler_of H h) K.parts.schedulers_size K.parts.schedules i f x (is_there H laws h s K i near on) there apart on g l
            ∙ sym (scheduler_at H h t i (Moved f) g x _ near old new);
      }))

  -- a merge, slot by slot
  module _ (t a b : ℕ) (there : a < H.macroflows) (into : b < H.macroflows) (apart : a ≡ b → ⊥) where
    abbrev merged : History
    merged = Merged t a b ∷ h

    -- the record of the slot i after the merge
    abbrev goes : ℕ → Stream
    goes i = cond (stream.is_in (at_slot i) a) (stream.moved (at_slot i) b) (at_slot i)

    -- the scheduler of g after the slots below n have gone
    abbrev gone : ℕ → ℕ → S
    gone n g = changed_to H.scheduling n (waits_in h g) (waits_in merged g) (λ i. weight (of_slot merged i)) (scheduler_of H h g)

    goes_kept : (i : ℕ) → i < 32 → SlotKept H.macroflows (goes i) (of_slot merged i)
    goes_kept i l =
        let old = K.streams.slots i l in
        subst (λ c. SlotKept H.macroflows (cond c (stream.moved (at_slot i) b) (at_slot i)) (of_slot merged i)) (sym (is_in_is old a))
        (by_test (is_in h a i) (λ c. SlotKept H.macroflows (cond c (stream.moved (at_slot i) b) (at_slot i)) (cond c (Moved b ∷ of_slot h i) (of_slot h i))) (λ _. kept_moved old b into) (λ _. old))

    -- what is held once the slots below n have gone
    record Gone (n : ℕ) (p : Placed S) : Type 0 where
      many : length p.core.streams ≡ 32
      macroflows_same : p.core.macroflows ≡ s.core.macroflows
      capacity_same : p.core.capacity ≡ s.core.capacity
      issued_same : p.core.issued ≡ s.core.issued
      went : (i : ℕ) → i < n → i < 32 → core.stream p.core i ≡ goes i
      still : (i : ℕ) → n ≤ i → i < 32 → core.stream p.core i ≡ at_slot i
      size : length p.schedulers ≡ H.macroflows
      told : (g : ℕ) → g < H.macroflows → get_or p.schedulers g H.scheduling.spare ≡ gone n g

    gone_none : Gone 0 (placed s.core s.schedulers)
    unfolding changed_to
    gone_none = record {
      many = K.streams.many;
      macroflows_same = refl;
      capacity_same = refl;
      issued_same = refl;
      went = λ i l m. absurd (omega arith);
      still = λ i l m. refl;
      size = K.parts.schedulers_size;
      told = K.parts.schedules;
    }

    -- the slot n goes
    gone_in : (n : ℕ) (p : Placed S) → n < 32 → stream.is_in (at_slot n) a ≡ true → Gone n p → Gone (suc n) (moved_slot H.scheduling n b p)
    unfolding changed_to
    gone_in n p near here G =
        let d = H.scheduling in
        let x = at_slot n in
        let on = (and_parts x.opened _ here).0 in
        let from : x.macroflow ≡ a = eqb-true _ a (and_parts x.opened _ here).1 in
        let old = K.streams.slots n near in
        let same : core.stream p.core n ≡ x = G.still n (omega arith) near in
        let own : goes n ≡ stream.moved x b = cond-true _ _ _ here in
        let new : SlotKept H.macroflows (stream.moved x b) (of_slot merged n) = subst (λ y. SlotKept H.macroflows y (of_slot merged n)) own (goes_kept n near) in
        let moved_one : Placed S = placed (with_stream p.core n (stream.moved x b)) (passed_on d p.schedulers n b x) in
        let now : Gone (suc n) moved_one = record {
          many = length-set p.core.streams n _ ∙ G.many;
          macroflows_same = G.macroflows_same;
          capacity_same = G.capacity_same;
          issued_same = G.issued_same;
          went = λ i l m.
              ⊎_elim
              (λ (e : i ≡ n). ap (λ j. core.stream moved_one.core j) e ∙ get_or-set_same p.core.streams n _ stream.no_stream (omega (arith, G.many)) ∙ sym own ∙ ap goes (sym e))
              (λ (ne : i ≡ n → ⊥). get_or-set_other p.core.streams n i _ stream.no_stream ne ∙ G.went i (omega arith) m)
              (cases_eq i n);
          still = λ i l m. get_or-set_other p.core.streams n i _ stream.no_stream (λ (e : i ≡ n). omega arith) ∙ G.still i (omega arith) m;
          size = passed_on_size d p.schedulers n b x ∙ G.size;
          told = λ g l.
              passed_on_is d H.macroflows p.schedulers (gone n) G.size G.told n b x (omega arith) into (λ e. apart (sym from ∙ e)) on g l
              ∙ ap (λ w. changed d (gone n g) n w (stream.waits_in x g) (stream.waits_in (stream.moved x b) g)) new.weight_is
              ∙ ap₂ (λ y z. changed d (gone n g) n (weight (of_slot merged n)) y z) (waits_is old g) (waits_is new g);
        } in
        subst (λ y. Gone (suc n) (placed (with_stream p.core n (stream.moved y b)) (passed_on d p.schedulers n b y))) (sym same) now

    -- the slot n stays
    gone_out : (n : ℕ) (p : Placed S) → n < 32 → stream.is_in (at_slot n) a ≡ false → Gone n p → Gone (suc n) p
    unfolding changed_to
    gone_out n p near away G =
        let d = H.scheduling in
        let x = at_slot n in
        let old = K.streams.slots n near in
        let out : is_in h a n ≡ false = sym (is_in_is old a) ∙ away in
        record {
          many = G.many;
          macroflows_same = G.macroflows_same;
          capacity_same = G.capacity_same;
          issued_same = G.issued_same;
          went = λ i l m.
              ⊎_elim
              (λ (e : i ≡ n). G.still i (omega arith) m ∙ ap (λ j. at_slot j) e ∙ sym (cond-false _ _ _ away) ∙ ap goes (sym e))
              (λ (ne : i ≡ n → ⊥). G.went i (omega arith) m)
              (cases_eq i n);
          still = λ i l m. G.still i (omega arith) m;
          size = G.size;
          told = λ g l. G.told g l ∙ sym (changed_same d (gone n g) n (weight (of_slot merged n)) (waits_in h g n) (waits_in merged g n) (sym (ap (λ c. open_in g (cond c (Moved b ∷ of_slot h n) (of_slot h n)) && waits (cond c (Moved b ∷ of_slot h n) (of_slot h n))) out)));
        }

    gone_all : (n : ℕ) → n ≤ 32 → Gone n (moved_below H.scheduling a b n (placed s.core s.schedulers))
    unfolding moved_below
    gone_all zero l = gone_none
    gone_all (suc n) l =
        let p = moved_below H.scheduling a b n (placed s.core s.schedulers) in
        let G = gone_all n (omega arith) in
        let near : n < 32 = omega arith in
        let same : core.stream p.core n ≡ at_slot n = G.still n (omega arith) near in
        subst (λ x. Gone (suc n) (cond (stream.is_in x a) (moved_slot H.scheduling n b p) p)) (sym same)
        (cond_both (stream.is_in (at_slot n) a) _ _ (Gone (suc n)) (λ here. gone_in n p near here G) (λ away. gone_out n p near away G))

    pub kept_merged : let p = moved_below H.scheduling a b 32 (placed s.core s.schedulers) in Kept H merged (state (at_time p.core t) s.controllers p.schedulers s.rows)
    kept_merged =
        let G = gone_all 32 (omega arith) in
        let xs = (moved_below H.scheduling a b 32 (placed s.core s.schedulers)).core.streams in
        let streams : StreamsKept H.macroflows merged xs = record {
          many = G.many;
          slots = λ i l. subst (λ y. SlotKept H.macroflows y (of_slot merged i)) (sym (G.went i l l)) (goes_kept i l);
          far = λ i l. ap (λ es. cond (open_in a es) (Moved b ∷ es) es) (K.streams.far i l);
        } in
        kept_with H laws h s K (Merged t a b) _ G.macroflows_same G.capacity_same refl (G.issued_same ∙ K.issued_is) streams (ledger_same K.ledger merged (same_merged h t a b))
        (record { controllers_size = K.parts.controllers_size; schedulers_size = G.size; controls = K.parts.controls; schedules = G.told })

  pub next_merge : (t a b : ℕ) → Next H h (Merge t a b) (step H.control H.scheduling s (Merge t a b))
  next_merge t a b =
      merge_cases H.control H.scheduling s (Next H h (Merge t a b)) t a b (λ n _. kept_nothing H laws h s K)
      (λ p. kept_merged t a b (omega (arith, ltb-true a _ p.1.1.0, K.macroflows_is)) (omega (arith, ltb-true b _ p.1.1.1.0, K.macroflows_is)) (eqb-false a b (not-true _ p.1.1.1.1.0)))
