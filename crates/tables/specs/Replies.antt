-- What a call answers, and the questions that come before it acts. Assumes nothing.
--   Reply A T           an answer, the core after it, and the tables that the call was lent after it
--   Question            whether it is answered 'yes', and the reason to refuse where it is not
--   asked qs e x        x, unless a question is answered 'no': then `e` of the first such question's reason
--   answered r m t f    what the call f makes of the answer to its questions; a refusal leaves all as it was
use Rattle.std.specs.Prelude.{Bool, cond, List, [], ◌∷◌, Ok, Err, Result}
use Rattle.meaning.specs.declared.refusal.Reason.{Reason}
use Rattle.meaning.specs.declared.refusal.Refusal.{Refusal}
use Rattle.tables.specs.declared.core_state.Core.{Core}

pub record Reply (A T : Type 0) : Type 0 where
  pub answer : A
  pub core : Core
  pub tables : T

abbrev pub reply : {A T : Type 0} → A → Core → T → Reply A T
reply a m t = record { answer = a; core = m; tables = t }

pub record Question : Type 0 where
  pub holds : Bool
  pub reason : Reason

abbrev pub q : Bool → Reason → Question
q b r = record { holds = b; reason = r }

abbrev pub asked : {X : Type 0} → List Question → (Reason → Refusal) → X → Result X Refusal
asked [] e x = Ok x
asked (y ∷ ys) e x = cond y.holds (asked ys e x) (Err (e y.reason))

abbrev pub answered : {X A T : Type 0} → Result X Refusal → Core → T → (X → Reply (Result A Refusal) T) → Reply (Result A Refusal) T
answered (Err e) m t f = reply (Err e) m t
answered (Ok x) m t f = f x
