-- What a table's step is made of: a take, a bank's step and a give.
use Rattle.std.proofs.Common.{◌≡◌, ℕ, ◌++◌, ◌-◌, length, Option, Some, IfOk, OnErr, sym, ap, ◌∙◌, subst}
use Rattle.std.specs.declared.result.Result.{Result}
use Rattle.std.specs.declared.result.Result.TheVariants.{Ok, Err}
use Rattle.ix_model.specs.declared.rules.Sym.TheVariants as sym_of
use Rattle.ix_model.specs.declared.grammar.Mark.{Mark}
use Rattle.ix_model.specs.Closure.Closed.{Edge, waiting}
use Rattle.ix_model.specs.Expansion.Parts.{Parts}
use Rattle.ix_model.specs.Expansion.Planned.{IsPlanned}
use Rattle.ix_model.specs.Expansion.Slots.{sym_after}
use Rattle.ix_model.proofs.SlotReaders.{next_reads}
use Rattle.ix_cluster.specs.declared.fact.Fact.{Fact}
use Rattle.ix_cluster.specs.BankSteps.{Call, Answer, BankStep}
use Rattle.ix_cluster.specs.Seen.{Bank}
use Rattle.ix_cluster.specs.Sound.{IsSoundBank}
use Rattle.ix_cluster.proofs.StepCases.{step_appends}
use Rattle.ix_rows.specs.Beginnings.{Begins}
use Rattle.ix_rows.specs.Logs.{log_at, put_at}
use Rattle.ix_rows.specs.Numbers.{run}
use Rattle.ix_rows.specs.Passes.{Pass}
use Rattle.ix_rows.specs.Views.{holding, giving}
use Rattle.ix_rows.proofs.Logs.{begins_all}
use Rattle.ix_table.specs.Answers.{Tells}
use Rattle.ix_table.specs.Calls.{place_for}
use Rattle.ix_table.specs.Sights.{sight_of}
use Rattle.ix_table.specs.TableSteps.{IsStep, IsLook}
use Rattle.ix_table.proofs.Tellings.{same_own, step_tells}

some_is : {A : Type 0} → (a b : A) → Some a ≡ Some b → a ≡ b
some_is a b e = cc

-- the bank that was taken is sound for the plan that the pass names
pub taken_sound : (plan : Parts) (topic : Option Parts) (m : ℕ) (bank : Bank) → topic ≡ Some plan → ((t : Parts) × (topic ≡ Some t) × IsSoundBank t 64 m bank) → IsSoundBank plan 64 m bank
taken_sound plan topic m bank names (t, is, sound) = subst (λ (p : Parts). IsSoundBank p 64 m bank) (some_is t plan (sym is ∙ names)) sound

-- in front of the rule that an edge of the closure calls stands the dot of its slot
pub edge_symbol : (plan : Parts) → IsPlanned plan → (r k s l : ℕ) → Edge plan r k s l → (mark : Option Mark) × (sym_after plan s ≡ Some (sym_of.Rule r mark))
edge_symbol plan planned r k s l (waiting slot left at after rule mark d h) = (mark, (next_reads plan planned slot after (sym_of.Rule rule mark) h).1)

-- the answer of a call that takes no memory
abbrev pub always : {A : Type 0} → A → Result A (Unit {0})
always a = Ok a

-- by each answer a step of the table was made, which tells what it tells, and where there was no memory a look
abbrev pub Made : {A E : Type 0} → Parts → Pass Bank Parts Fact → Call → (A → Answer) → Result A E → Pass Bank Parts Fact → Type 0
Made plan old call answer_of r new = IfOk r (λ a. IsStep plan (sight_of old) call (answer_of a) (sight_of new)) × IfOk r (λ a. Tells plan (sight_of old) call (answer_of a) (sight_of new)) × OnErr r (IsLook plan (sight_of old) call (sight_of new))

-- the pass took the bank of the call's home, and it is to be given back as another
pub record Taken (plan : Parts) (call : Call) (old held : Pass Bank Parts Fact) (place : ℕ) (met left : Bank) : Type 0 where
  pub at_home : place ≡ place_for plan call
  pub names : old.me.0.topic ≡ Some plan
  pub holds : held.me.0 ≡ holding old.me.0 (place_for plan call) met.log
  pub begins : Begins met.log (log_at old.me.0.known (place_for plan call))
  pub sound_met : IsSoundBank plan 64 (place_for plan call) met
  pub sound_left : IsSoundBank plan 64 (place_for plan call) left

module _ (plan : Parts) (call : Call) (old held : Pass Bank Parts Fact) (lent left : Bank) where
  -- what a take tells at the number of its place, and of the bank as it was before it was lent
  pub taken_at : (m place : ℕ) (met : Bank) → m ≡ place_for plan call → old.me.0.topic ≡ Some plan → ((t : Parts) × (old.me.0.topic ≡ Some t) × IsSoundBank t 64 m met) → Begins met.log (log_at old.me.0.known m)
      → held.me.0 ≡ holding old.me.0 m met.log → place ≡ m → lent ≡ met → (IsSoundBank plan 64 (place_for plan call) lent → IsSoundBank plan 64 (place_for plan call) left) → Taken plan call old held place lent left
  taken_at m place met home names fact begins holds at same keeps =
      let here = subst (λ (n : ℕ). IsSoundBank plan 64 n met) home (taken_sound plan old.me.0.topic m met names fact) in
      let lent_here = subst (IsSoundBank plan 64 (place_for plan call)) (sym same) here in
      record {
        at_home = at ∙ home;
        names = names;
        holds = holds ∙ (λ i. holding old.me.0 (home i) (sym same i).log);
        begins = subst (λ (b : Bank). Begins b.log (log_at old.me.0.known (place_for plan call))) (sym same) (subst (λ (n : ℕ). Begins met.log (log_at old.me.0.known n)) home begins);
        sound_met = lent_here;
        sound_left = keeps lent_here;
      }

module _ (plan : Parts) (call : Call) (old held : Pass Bank Parts Fact) (place : ℕ) (met left : Bank) (taken : Taken plan call old held place met left) where
  -- the bank that is given back is sound at the place where one was taken, for the plan that the pass names
  pub given_sound : (t : Parts) × (held.me.0.topic ≡ Some t) × IsSoundBank t 64 place left
  given_sound = (plan, ap (λ v. v.topic) taken.holds ∙ taken.names, subst (λ (n : ℕ). IsSoundBank plan 64 n left) (sym taken.at_home) taken.sound_left)

  -- the bank was given back as it was
  looked : (new : Pass Bank Parts Fact) → new.me.0 ≡ giving (holding old.me.0 (place_for plan call) met.log) (place_for plan call) left.log → left ≡ met → IsLook plan (sight_of old) call (sight_of new)
  looked new given same = record {
    met = met;
    begins = taken.begins;
    sound_met = taken.sound_met;
    now = ap (λ v. record { known = v.known; own = v.own }) given ∙ (λ i. record { known = put_at old.me.0.known (place_for plan call) (same i).log; own = old.me.0.own ++ run (place_for plan call) (length met.log) (length (same i).log - length met.log) })
        ∙ ap (λ own. record { known = put_at old.me.0.known (place_for plan call) met.log; own = own }) (same_own old.me.0.own (place_for plan call) (length met.log));
  }

  module _ {A E : Type 0} (answer_of : A → Answer) where
    -- in any case the log that is given back begins with the one that was taken
    pub given_grown : (r : Result A E) → IfOk r (λ a. BankStep plan met.log call (answer_of a) left.log) → OnErr r (left ≡ met) → Begins left.log held.me.0.took
    given_grown r step same = subst (Begins left.log) (sym (ap (λ v. v.took) taken.holds)) (by r step same)
      where
        by : (r : Result A E) → IfOk r (λ a. BankStep plan met.log call (answer_of a) left.log) → OnErr r (left ≡ met) → Begins left.log met.log
        by (Ok a) step same = step_appends plan met.log call (answer_of a) left.log step
        by (Err e) step same = subst (λ (b : Bank). Begins b.log met.log) (sym same) (begins_all met.log)

    pub made : (new : Pass Bank Parts Fact) → new.me.0 ≡ giving held.me.0 place left.log → (r : Result A E) → IfOk r (λ a. BankStep plan met.log call (answer_of a) left.log) → OnErr r (left ≡ met) → Made plan old call answer_of r new
    made new given r step same = by r step same
      where
        at_home : new.me.0 ≡ giving (holding old.me.0 (place_for plan call) met.log) (place_for plan call) left.log
        at_home = given ∙ (λ i. giving (taken.holds i) (taken.at_home i) left.log)

        stepped : (answer : Answer) → BankStep plan met.log call answer left.log → IsStep plan (sight_of old) call answer (sight_of new)
        stepped answer step = record { met = met; left = left; begins = taken.begins; step = step; sound_met = taken.sound_met; sound_left = taken.sound_left; now = ap (λ v. record { known = v.known; own = v.own }) at_home }

        by : (r : Result A E) → IfOk r (λ a. BankStep plan met.log call (answer_of a) left.log) → OnErr r (left ≡ met) → Made plan old call answer_of r new
        by (Ok a) step same = let it = stepped (answer_of a) step in (it, step_tells plan (sight_of old) call (answer_of a) (sight_of new) it, tt)
        by (Err e) step same = (tt, tt, looked new at_home same)
