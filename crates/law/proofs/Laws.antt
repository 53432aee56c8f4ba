-- The law stands over every run.
--   since                  what is so of m, and stays so with one more, is so of every number from m on
--   held_next, answer_is   each call finds all as the last left it
--   at_step                what is so of a call's answer and of what it leaves is so in the run
--   kept_all               at every moment what is held is what the history tells
--   lawful                 all of it
use Rattle.std.proofs.Common.{◌≡◌, ℕ, zero, suc, ◌+◌, ◌<◌, ◌≤◌, Bool, true, false, not, ◌&&◌, eqb, leb, List, [], ◌∷◌, length, get_or, take, Some, sym, refl, ap, ◌∙◌, subst, ⊎_elim, arith, Ok, Err}
use Rattle.std.proofs.lemmas.List.{length-replicate, get_or-replicate, get_or_default}
use Rattle.std.proofs.lemmas.List.Elements.{All-get_or}
use Rattle.std.proofs.lemmas.List.Sums.{AllPass-from_list_all}
use Rattle.std.proofs.lemmas.Bool.{leb-true, eqb-true, eq-eqb, and_parts, not-true, cases_lt, true≢false, cases_eq, cond_both, false_from_ne_true}
use Rattle.meaning.specs.Refusals.{number}
use Rattle.meaning.specs.Below.{all_below}
use Rattle.meaning.specs.Control.{Control, ControlLaws}
use Rattle.meaning.specs.Scheduling.{Scheduling, SchedulingLaws}
use Rattle.tables.specs.declared.row.Row.{Row}
use Rattle.tables.specs.Streams.{no_stream}
use Rattle.grant_calls.specs.declared.polling.Polled.TheVariants as poll
use Rattle.manager.specs.declared.call.Call.{Call}
use Rattle.manager.specs.declared.call.Call.TheVariants.{Open, Request, Poll, TakeUp, Settle, Expire, Report, Move, Merge, Close}
use Rattle.manager.specs.Answers.{Answer}
use Rattle.manager.specs.declared.call.Told.TheVariants as told
use Rattle.manager.specs.State.{State}
use Rattle.manager.specs.Steps.{step, after, answers}
use Rattle.manager.specs.Making.{is_idle, is_ready}
use Rattle.law.specs.Effects.{SlotEvent, Effect, effect, slot_of, bytes_of}
use Rattle.law.specs.Effects.SlotEvent.{Booked}
use Rattle.law.specs.Effects.Effect.{AtSlot, Merged}
use Rattle.law.specs.Slots.{charged, received, lost, abandoned, outstanding, grants}
use Rattle.law.specs.History.{History, of_slot, is_in, waits_in, issued, ends, grants_to, grants_in}
use Rattle.law.specs.Law as law
use Rattle.law.specs.Law.{Run, call, so_far, IsCall, IsMoment}
use Rattle.law.specs.Runs.{Lent, start, run_of}
use Rattle.law.proofs.SlotFacts.{SlotKept, outstanding_is, kept_none}
use Rattle.law.proofs.Ledger.{ledger_none}
use Rattle.law.proofs.Kept.{Host, controller_of, scheduler_of, Kept}
use Rattle.law.proofs.Streaming.{Next, next_open, next_request, next_close}
use Rattle.law.proofs.Reporting.{next_report}
use Rattle.law.proofs.Moving.{next_move, next_merge}
use Rattle.law.proofs.Granting.{next_take_up, next_settle, next_expire}
use Rattle.law.proofs.Polling.{next_poll}
use Rattle.law.proofs.Sound.{is_one, even, reserved_is}
use Rattle.law.proofs.Exact.{poll_exact, poll_picks}
use Rattle.law.proofs.Stays.{row_stays, is_refused, refused_same}
use Rattle.law.proofs.Fair.{Picks, bound_same, patient}

all_at : (n : ℕ) (p : ℕ → Bool) → all_below n p ≡ true → (i : ℕ) → i < n → p i ≡ true
unfolding all_below
all_at zero p e i l = absurd (omega arith)
all_at (suc n) p e i l =
    let parts = and_parts (all_below n p) (p n) e in
    ⊎_elim (λ (q : i ≡ n). ap p q ∙ parts.1) (λ (q : i ≡ n → ⊥). all_at n p parts.0 i (omega arith)) (cases_eq i n)

since : (m : ℕ) (P : ℕ → Type 0) → P m → ((n : ℕ) → m ≤ n → P n → P (suc n)) → (n : ℕ) → m ≤ n → P n
since m P start more zero le = let same : m ≡ 0 = omega arith in subst P same start
since m P start more (suc n) le =
    ⊎_elim (λ (same : m ≡ suc n). subst P same start) (λ (ne : m ≡ suc n → ⊥). let l : m ≤ n = omega arith in more n l (since m P start more n l)) (cases_eq m (suc n))

-- one call more of a list
module _ {C S : Type 0} (k : Control C) (d : Scheduling S) where
  after_more : (s : State C S) (calls : List Call) (n : ℕ) (c : Call) → n < length calls → after k d s (take (suc n) calls) ≡ (step k d (after k d s (take n calls)) (get_or calls n c)).state
  after_more s [] n c l = absurd (omega arith)
  after_more s (x ∷ xs) zero c l = refl
  after_more s (x ∷ xs) (suc n) c l = after_more (step k d s x).state xs n c (omega arith)

  answer_at : (s : State C S) (calls : List Call) (n : ℕ) (c : Call) (a : Answer) → n < length calls → get_or (answers k d s calls) n a ≡ (step k d (after k d s (take n calls)) (get_or calls n c)).answer
  answer_at s [] n c a l = absurd (omega arith)
  answer_at s (x ∷ xs) zero c a l = refl
  answer_at s (x ∷ xs) (suc n) c a l = answer_at (step k d s x).state xs n c a (omega arith)

module _ {C S : Type 0} (H : Host C S) (c-laws : ControlLaws H.control) (laws : SchedulingLaws 32 H.scheduling) (few : H.rows ≤ 65536) (h : History) (s : State C S) (K : Kept H h s) where
  next : (c : Call) → Next H h c (step H.control H.scheduling s c)
  next (Open t i f w l) = next_open H laws h s K t i f w l
  next (Request t i) = next_request H laws h s K t i
  next (Poll t f) = next_poll H c-laws laws h s K t f
  next (TakeUp t g) = next_take_up H laws h s K t g
  next (Settle t g n) = next_settle H laws h s K t g n
  next (Expire t) = next_expire H laws h s K t
  next (Report t i b) = next_report H laws few h s K t i b
  next (Move t i f) = next_move H laws h s K t i f
  next (Merge t a b) = next_merge H laws h s K t a b
  next (Close t i) = next_close H laws h s K t i

  abbrev done : Call → Rattle.manager.specs.Steps.Stepped C S
  done c = step H.control H.scheduling s c

  effect_picks : (c : Call) (rows : List Row) (a : Answer) → ((t f g : ℕ) → c ≡ Poll t f → a ≡ Ok (told.Polled (poll.Granted g)) → H.scheduling.chosen (scheduler_of H h f) ≡ Some (slot_of rows g)) → Picks H h (effect rows c a)
  effect_picks (Poll t f) rows (Ok (told.Polled (poll.Granted g))) p = p t f g refl refl
  effect_picks (Expire t) rows (Ok (told.Expired (Some g))) p = tt
  effect_picks _ rows (Err r) p = tt
  effect_picks _ rows _ p = tt

  picks : (c : Call) → Picks H h (effect (done c).state.rows c (done c).answer)
  picks c =
      effect_picks c (done c).state.rows (done c).answer
      (λ t f g e. subst (λ x. (done x).answer ≡ Ok (told.Polled (poll.Granted g)) → H.scheduling.chosen (scheduler_of H h f) ≡ Some (slot_of (done x).state.rows g)) (sym e) (λ a. (poll_picks H c-laws laws few h s K t f g a).2))

-- what has ended stays so, and what was granted too
ends_grow : (e : Effect) (h : History) (g : ℕ) → ends h g ≤ ends (e ∷ h) g
ends_grow (AtSlot t i e) h g = omega arith
ends_grow _ h g = omega arith

event_grants : (e : SlotEvent) (es : List SlotEvent) → grants es ≤ grants (e ∷ es)
event_grants (Booked b) es = omega arith
event_grants _ es = omega arith

grants_grow : (e : Effect) (h : History) (i : ℕ) → grants_to h i ≤ grants_to (e ∷ h) i
grants_grow (AtSlot t j e) h i = cond_both (eqb j i) _ _ (λ es. grants (of_slot h i) ≤ grants es) (λ _. event_grants e (of_slot h i)) (λ _. omega arith)
grants_grow (Merged t a b) h i = cond_both (is_in h a i) _ _ (λ es. grants (of_slot h i) ≤ grants es) (λ _. omega arith) (λ _. omega arith)
grants_grow _ h i = omega arith

module _ {C S : Type 0} (k : Control C) (d : Scheduling S) (c-laws : ControlLaws k) (laws : SchedulingLaws 32 d)
    (F : ℕ) (L : Lent C S) (ready : is_ready d F (length L.controllers) L.schedulers (length L.rows) ≡ true)
    (calls : List Call) (given : List Answer) (right : given ≡ answers k d (start F L) calls) where
  abbrev cs : List C
  cs = L.controllers

  abbrev ss : List S
  ss = L.schedulers

  abbrev rs : List Row
  rs = L.rows

  abbrev r : Run C S
  r = run_of k d F L calls given

  abbrev H : Host C S
  H = record { control = k; scheduling = d; macroflows = F; rows = length rs; controllers = cs; schedulers = ss }

  record Ready : Type 0 where
    few : length rs ≤ 65536
    controllers_many : length cs ≡ F
    schedulers_many : length ss ≡ F
    idle : (f i : ℕ) → f < F → d.waits (get_or ss f d.spare) i ≡ false

  made_ready : Ready
  made_ready =
      let sizes = (and_parts (leb 1 F && leb F 8) _ ready).1 in
      let lists = and_parts (leb (length rs) 65536) _ sizes in
      let two = and_parts (eqb (length cs) F) _ lists.1 in
      let three = and_parts (eqb (length ss) F) _ two.1 in
      let many : length ss ≡ F = eqb-true _ F three.0 in
      record {
        few = leb-true _ 65536 lists.0;
        controllers_many = eqb-true _ F two.0;
        schedulers_many = many;
        idle = λ f i l.
            let x = get_or ss f d.spare in
            ⊎_elim
            (λ (near : i < 32). not-true _ (all_at 32 (λ j. not (d.waits x j)) (All-get_or (λ y. is_idle d y ≡ true) ss f d.spare (omega arith) (AllPass-from_list_all (is_idle d) ss three.1)) i near))
            (λ (far : 32 ≤ i). false_from_ne_true _ (λ on. let near = laws.waits_below x i on in omega arith))
            (cases_lt i 32);
      }

  few : length rs ≤ 65536
  few = made_ready.few

  held_next : (n : ℕ) → IsCall r n → r.held (suc n) ≡ (step k d (r.held n) (call r n)).state
  held_next n l = after_more k d (start F L) calls n (Expire 0) l

  answer_is : (n : ℕ) → IsCall r n → law.answer r n ≡ (step k d (r.held n) (call r n)).answer
  answer_is n l = ap (λ xs. get_or xs n (Ok told.Done)) right ∙ answer_at k d (start F L) calls n (Expire 0) (Ok told.Done) l

  at_step : (n : ℕ) → IsCall r n → (P : State C S → Answer → Type 0) → P (step k d (r.held n) (call r n)).state (step k d (r.held n) (call r n)).answer → P (r.held (suc n)) (law.answer r n)
  at_step n l P p = subst (P (r.held (suc n))) (sym (answer_is n l)) (subst (λ s. P s (step k d (r.held n) (call r n)).answer) (sym (held_next n l)) p)

  kept_start : Kept H [] (start F L)
  kept_start = record {
    macroflows_is = refl;
    capacity_is = refl;
    last_is = refl;
    issued_is = refl;
    streams = record {
      many = length-replicate 32 no_stream;
      slots = λ i l. subst (λ x. SlotKept F x []) (sym (get_or-replicate 32 i no_stream no_stream l)) (kept_none F);
      far = λ i l. refl;
    };
    ledger = ledger_none (length rs) rs refl;
    parts = record { controllers_size = made_ready.controllers_many; schedulers_size = made_ready.schedulers_many; controls = λ f l. refl; schedules = λ f l. refl };
    waiting = λ f i l. made_ready.idle f i l;
  }

  kept_all : (n : ℕ) → IsMoment r n → Kept H (so_far r n) (r.held n)
  kept_all zero l = kept_start
  kept_all (suc n) l =
      let is_call : IsCall r n = omega arith in
      let K = kept_all n (omega arith) in
      at_step n is_call (λ s a. Kept H (effect s.rows (call r n) a ∷ so_far r n) s) (next H c-laws laws few (so_far r n) (r.held n) K (call r n))

  polls_issue_exactly : law.PollsIssueExactly k r
  polls_issue_exactly n t f l e =
      let K = kept_all n (omega arith) in
      let exact = poll_exact H c-laws laws few (so_far r n) (r.held n) K t f in
      let same : law.answer r n ≡ (step k d (r.held n) (Poll t f)).answer = answer_is n l ∙ ap (λ c. (step k d (r.held n) c).answer) e in
      (λ x. exact.0 (subst law.Issues same x), λ x. subst law.Issues (sym same) (exact.1 x))

  one_packet_fits : law.OnePacketFits k r
  one_packet_fits n f l e = omega (arith, c-laws.allowance_least (controller_of H (so_far r n) f))

  grants_go_to_the_pick : law.GrantsGoToThePick k d r
  grants_go_to_the_pick n t f g l e a =
      let K = kept_all n (omega arith) in
      let same : law.answer r n ≡ (step k d (r.held n) (Poll t f)).answer = answer_is n l ∙ ap (λ c. (step k d (r.held n) c).answer) e in
      let after-it : r.held (suc n) ≡ (step k d (r.held n) (Poll t f)).state = held_next n l ∙ ap (λ c. (step k d (r.held n) c).state) e in
      let p = poll_picks H c-laws laws few (so_far r n) (r.held n) K t f g (sym same ∙ a) in
      (p.0, ap (λ s. bytes_of s.rows g) after-it ∙ p.1, p.2 ∙ ap (λ s. Some (slot_of s.rows g)) (sym after-it))

  parts_are_told : law.PartsAreTold k d r
  parts_are_told n f l there = let P = (kept_all n l).parts in (P.controls f there, P.schedules f there)

  grants_end_once : law.GrantsEndOnce r
  grants_end_once n g l =
      let K = kept_all n l in
      grind (arith, cases_lt g (issued (so_far r n)), λ (m : g < issued (so_far r n)). (K.ledger.grants g m).once, K.ledger.unissued g)

  -- from the moment m on
  stays_from : (m g : ℕ) (x : Row) → ends (so_far r m) g ≡ 1 → (n : ℕ) → m ≤ n
      → IsMoment r n → (get_or (r.held n).rows g x ≡ get_or (r.held m).rows g x) × (ends (so_far r n) g ≡ 1)
  stays_from m g x over =
      since m (λ n. IsMoment r n → (get_or (r.held n).rows g x ≡ get_or (r.held m).rows g x) × (ends (so_far r n) g ≡ 1)) (λ l. (refl, over))
      (λ n le then l.
      let before = then (omega arith) in
      let is_call : IsCall r n = omega arith in
      let K = kept_all n (omega arith) in
      let row_same = row_stays H laws (so_far r n) (r.held n) K g before.1 x (call r n) in
      let grown = ends_grow (effect (r.held (suc n)).rows (call r n) (law.answer r n)) (so_far r n) g in
      let most = grants_end_once (suc n) g l in
      (ap (λ (s : State C S). get_or s.rows g x) (held_next n is_call) ∙ row_same ∙ before.0, omega (arith, before.1)))

  rows_stay : law.RowsStay r
  rows_stay m n g x le l over = (stays_from m g x over n le l).0

  books_balance : law.BooksBalance r
  books_balance n i l =
      let K = kept_all n l in
      let open_is = K.ledger.open_is i in (
        open_is,
        ⊎_elim
            (λ (near : i < 32).
            let old = K.streams.slots i near in
            omega (arith, old.balance, old.charged_is, old.received_is, old.lost_is, old.abandoned_is, outstanding_is old))
            (λ (far : 32 ≤ i). ap (λ es. charged es) (K.streams.far i far) ∙ sym (ap (λ es. received es + lost es + abandoned es + outstanding es) (K.streams.far i far)))
            (cases_lt i 32),
      )

  records_agree : law.RecordsAgree r
  records_agree n i x l near =
      let K = kept_all n l in
      let old = K.streams.slots i near in
      let s = r.held n in
      subst (λ y. law.Tells r y (so_far r n) i) (get_or_default s.core.streams i no_stream x (omega (arith, K.streams.many)))
      (search (old, reserved_is H c-laws laws few (so_far r n) s K i near, outstanding_is old))

  tables_are_sound : law.TablesAreSound r
  tables_are_sound n e l a one =
      let K = kept_all n (omega arith) in
      let none = even H c-laws laws few (so_far r n) (r.held n) K (call r n) in
      true≢false (sym (eq-eqb (number e.reason) 1 (ap number one)) ∙ sym (ap is_one a) ∙ ap is_one (answer_is n l) ∙ none)

  refusals_change_nothing : law.RefusalsChangeNothing r
  refusals_change_nothing n e l a = held_next n l ∙ refused_same H (r.held n) (call r n) (sym (ap is_refused (answer_is n l)) ∙ ap is_refused a)

  grants_since : (m i n : ℕ) → m ≤ n → grants_to (so_far r m) i ≤ grants_to (so_far r n) i
  grants_since m i =
      since m (λ n. grants_to (so_far r m) i ≤ grants_to (so_far r n) i) (omega arith)
      (λ n le before. omega (arith, before, grants_grow (effect (r.held (suc n)).rows (call r n) (law.answer r n)) (so_far r n) i))

  -- patience and grants together do not grow through the stretch
  patient_through : (m f i : ℕ) → f < F → (n : ℕ) → m ≤ n → IsMoment r n
      → ((x : ℕ) → m ≤ x → x ≤ n → waits_in (so_far r x) f i ≡ true)
      → grants_to (so_far r n) i ≡ grants_to (so_far r m) i
      → d.patience (scheduler_of H (so_far r n) f) i + grants_in (so_far r n) f ≤ d.patience (scheduler_of H (so_far r m) f) i + grants_in (so_far r m) f
  patient_through m f i there =
      since m
      (λ n. IsMoment r n → ((x : ℕ) → m ≤ x → x ≤ n → waits_in (so_far r x) f i ≡ true) → grants_to (so_far r n) i ≡ grants_to (so_far r m) i
      → d.patience (scheduler_of H (so_far r n) f) i + grants_in (so_far r n) f ≤ d.patience (scheduler_of H (so_far r m) f) i + grants_in (so_far r m) f)
      (λ l waits none. omega arith)
      (λ n le then l waits none.
      let h = so_far r n in
      let e = effect (r.held (suc n)).rows (call r n) (law.answer r n) in
      let is_call : IsCall r n = omega arith in
      let K = kept_all n (omega arith) in
      let grown = grants_grow e h i in
      let more = grants_since m i n le in
      let still : grants_to h i ≡ grants_to (so_far r m) i = omega arith in
      let before = then (omega arith) (λ x a b. waits x a (omega arith)) still in
      let fair : Picks H h e = at_step n is_call (λ s a. Picks H h (effect s.rows (call r n) a)) (picks H c-laws laws few h (r.held n) K (call r n)) in
      let one = patient H laws h e f i fair (K.waiting f i there) (waits n le (omega arith)) (waits (suc n) (omega arith) (omega arith)) (omega arith) in
      omega arith)

  waits_are_bounded : law.WaitsAreBounded d r
  waits_are_bounded m n f i le l there waits none =
      let h = so_far r m in
      let through = patient_through m f i there n le l waits none in
      let K = kept_all m (omega arith) in
      let most = laws.bounded (scheduler_of H h f) i (K.waiting f i there ∙ waits m (omega arith) le) in
      omega (arith, bound_same H laws h f)

  pub lawful : law.Promises k d r
  lawful = record {
    polls_exactly = polls_issue_exactly;
    packet_fits = one_packet_fits;
    picks = grants_go_to_the_pick;
    bounded = waits_are_bounded;
    ends_once = grants_end_once;
    rows_stay = rows_stay;
    balances = books_balance;
    records = records_agree;
    parts = parts_are_told;
    sound = tables_are_sound;
    refusals = refusals_change_nothing;
  }
