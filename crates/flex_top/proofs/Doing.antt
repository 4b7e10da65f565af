-- What a command does, by what the outside gave and what came of the run.
use Rattle.std.proofs.Common.{◌≡◌, ◌≢◌, ℕ, List, [], Option, None, Some, Result, Ok, Err, inl, inr, refl, ap, sym, subst, ◌∙◌, arith}
use Rattle.std.specs.Prelude.{IfSome, IsErrOf}
use Rattle.flex_base.specs.Files.{Files, Counts, ChangesFile, ChangesText, Said, SaidPart}
use Rattle.flex_base.specs.Loaded.{Loaded}
use Rattle.flex_base.specs.Outside.{Outside, OnlyReads, Writes}
use Rattle.transplant_plan.specs.Assignment.{Assignment}
use Rattle.transplant_plan.specs.Shown.{shown}
use Rattle.flex_top.specs.Words.{Reading}
use Rattle.flex_top.specs.Answer.{Sources, file_among, sources_among, plan_by, plan_from, image_from, input_from, setup_of, answer_of, expected, Outcome, outcome_of_run, outcome_of, IsOutcome, IsRunOutcome, IsOutcomeOfRun}
use Rattle.flex_top.specs.Does.{IsAnswer, first_named, first_file, Answers, IsCalm, IsEnded, WritesAll, WritesPart, Leaves, BreaksSaying, BreaksWriting, LeavesPart, LeavesOne, LeavesPartOfOne, LeavesNothing, Does}
use Rattle.flex_top.specs.Taking.{IsFile, Gives, Refuses, IsRefused, IsPlanRefused, AreGiven, AreRefused, IsRefusal, IsOfRun}
use Rattle.flex_top.specs.Written.{OnlyLeaves, Becomes, BecomesPart}
use Rattle.flex_top.specs.declared.sources.Inputs.{Inputs}
use Rattle.flex_top.specs.declared.status.Status.{Status}
use Rattle.flex_top.specs.declared.status.Status.TheVariants as status

-- a call whose count stays has not failed
pub calm_unfailed : (before now : ℕ) (Fails : Type 0) → Counts before now Fails → IsCalm before now → Fails → ⊥
calm_unfailed before now Fails counts calm fails = let more = counts.failed fails calm.1 in omega (arith, calm.0, more)

-- what is expected to end has ended, or memory ran out
ended_by : (answer : Status) → IsAnswer status.Ended answer → (answer ≡ status.ReadFault → ⊥) → (answer ≡ status.WriteFault → ⊥) → IsEnded answer
ended_by status.Ended is unread unwritten = inl refl
ended_by status.OutOfMemory is unread unwritten = inr refl
ended_by status.ReadFault is unread unwritten = absurd (unread refl)
ended_by status.WriteFault is unread unwritten = absurd (unwritten refl)
ended_by status.Usage is unread unwritten = absurd cc
ended_by (status.ImageRefused why) is unread unwritten = absurd cc
ended_by (status.PlanRefused why) is unread unwritten = absurd cc
ended_by (status.InputTooLong n) is unread unwritten = absurd cc

-- The files that a command goes by: those that are told, else some.

abbrev pub file_held : Option Files → Option (List ℕ) → Option (List ℕ)
file_held None name = Some []
file_held (Some files) name = file_among name files

pub told_file : (held : Option Files) (name : Option (List ℕ)) → IsFile held name (file_held held name)
told_file None name = tt
told_file (Some files) name = refl

abbrev sources : Option (List ℕ) → Option (List ℕ) → Option (List ℕ) → Sources
sources plan image input = record { plan = plan; image = image; input = input }

told_sources : (held : Option Files) (r : Reading) (plan image input : Option (List ℕ)) → IsFile held r.plan plan → IsFile held (Some r.image) image → IsFile held r.input input
    → IfSome held (λ files. sources plan image input ≡ sources_among r files)
told_sources None r plan image input first second third = tt
told_sources (Some files) r plan image input first second third =
    ap (λ (o : Option (List ℕ)). sources o image input) first
    ∙ ap (λ (o : Option (List ℕ)). sources (file_among r.plan files) o input) second
    ∙ ap (λ (o : Option (List ℕ)). sources (file_among r.plan files) (files r.image) o) third

-- one read after another

pub reads_after : (old mid new : Outside) (Fails Fails' : Type 0) → OnlyReads old mid Fails → (Fails → ⊥) → OnlyReads mid new Fails' → OnlyReads old new Fails'
reads_after old mid new Fails Fails' first unfailed second =
    let From : ℕ → Type 0 = λ n. Counts n new.read_faults Fails' in
    record {
      cause = subst From (first.cause.calm unfailed) second.cause;
      write_faults = second.write_faults ∙ first.write_faults;
      held = second.held ∙ first.held;
      written = second.written ∙ first.written;
      said = second.said ∙ first.said;
    }

pub some_same : (a b : Reading) → Some a ≡ Some b → a ≡ b
some_same a b same = cc

-- a read that failed was answered so
pub read_failed : (T : Type 0) (old new : Outside) (why : Status) → OnlyReads old new (IsErrOf {T = T} {E = Status} (Err why) status.ReadFault) → OnlyReads old new (why ≡ status.ReadFault)
read_failed T old new why took =
    let Failed : Type 0 = IsErrOf {T = T} {E = Status} (Err why) status.ReadFault in
    let to : Failed → why ≡ status.ReadFault = λ fails. cc in
    let from : why ≡ status.ReadFault → Failed = λ fails. ap Err fails in
    record {
      cause = record { no_fall = took.cause.no_fall; failed = λ fails. took.cause.failed (from fails); calm = λ unfailed. took.cause.calm (λ fails. unfailed (to fails)) };
      write_faults = took.write_faults;
      held = took.held;
      written = took.written;
      said = took.said;
    }

-- Refusals.

refusal_unended : (why : Status) → IsRefusal why → why ≢ status.Ended
refusal_unended why is same = subst IsRefusal same is

refusal_unwritten : (why : Status) → IsRefusal why → why ≢ status.WriteFault
refusal_unwritten why is same = subst IsRefusal same is

answer_by : (e why : Status) → IsRefusal why → why ≡ e → IsAnswer e why
answer_by e status.ReadFault is same = tt
answer_by e status.OutOfMemory is same = tt
answer_by e (status.ImageRefused fault) is same = same
answer_by e (status.PlanRefused fault) is same = same
answer_by e (status.InputTooLong n) is same = same
answer_by e status.Usage is same = absurd is
answer_by e status.Ended is same = absurd is
answer_by e status.WriteFault is same = absurd is

-- the refusal of a file is the answer, where what the file means leads to it
refusal_answers : (A : Type 0) (file : Option (List ℕ)) (meaning : Result A Status) (e why : Status) → Refuses A file meaning why → IsRefusal why → (meaning ≡ Err why → why ≡ e) → IsAnswer e why
refusal_answers A None meaning e why refuses is leads = answer_by e why is (leads refuses)
refusal_answers A (Some file) meaning e status.ReadFault refuses is leads = tt
refusal_answers A (Some file) meaning e status.OutOfMemory refuses is leads = tt
refusal_answers A (Some file) meaning e (status.ImageRefused fault) refuses is leads = leads refuses
refusal_answers A (Some file) meaning e (status.PlanRefused fault) refuses is leads = leads refuses
refusal_answers A (Some file) meaning e (status.InputTooLong n) refuses is leads = leads refuses
refusal_answers A (Some file) meaning e status.Usage refuses is leads = absurd is
refusal_answers A (Some file) meaning e status.Ended refuses is leads = absurd is
refusal_answers A (Some file) meaning e status.WriteFault refuses is leads = absurd is

-- of the image, where no plan is named
image_answers : (file : Option (List ℕ)) (given : Assignment) (meaning : Result Loaded Status) (input : Result (List ℕ) Status) (why : Status) → Refuses Loaded file meaning why → IsRefusal why
    → Answers file (answer_of (Ok given) meaning input) why
image_answers None given meaning input why refuses is = sym (ap (λ (l : Result Loaded Status). answer_of (Ok given) l input) refuses)
image_answers (Some file) given meaning input why refuses is =
    refusal_answers Loaded (Some file) meaning (answer_of (Ok given) meaning input) why refuses is (λ same. sym (ap (λ (l : Result Loaded Status). answer_of (Ok given) l input) same))

-- of the plan
plan_refused : (file : Option (List ℕ)) (e why : Status) → Refuses Assignment file (plan_from file) why → IsRefusal why → (plan_from file ≡ Err why → why ≡ e) → Answers file e why
plan_refused None e why refuses is leads = leads refuses
plan_refused (Some file) e why refuses is leads = refusal_answers Assignment (Some file) (plan_from (Some file)) e why refuses is leads

-- an image that is given has a file
given_answers : (file : Option (List ℕ)) (ram : ℕ) (start : Loaded) (e why : Status) → image_from file ram ≡ Ok start → IsAnswer e why → Answers file e why
given_answers None ram start e why gives is = absurd cc
given_answers (Some file) ram start e why gives is = is

-- a plan that is given has a file
plan_answers : (file : Option (List ℕ)) (given : Assignment) (e why : Status) → plan_from file ≡ Ok given → IsAnswer e why → Answers file e why
plan_answers None given e why gives is = absurd cc
plan_answers (Some file) given e why gives is = is

-- the first file is the plan's where one is named, else the image's
first_answers : (name plan image : Option (List ℕ)) (given : Assignment) (e why : Status) → plan_by name plan ≡ Ok given → IsAnswer e why → (name ≡ None → Answers image e why)
    → Answers (first_named name plan image) e why
first_answers None plan image given e why gives is unnamed = unnamed refl
first_answers (Some name) plan image given e why gives is unnamed = plan_answers plan given e why gives is

-- the refusal of an image is the answer
refused_image : (file : Option (List ℕ)) (given : Assignment) (meaning : Result Loaded Status) (input : Result (List ℕ) Status) (why : Status) → Refuses Loaded file meaning why → IsRefusal why
    → IsAnswer (answer_of (Ok given) meaning input) why
refused_image file given meaning input why refuses is =
    refusal_answers Loaded file meaning (answer_of (Ok given) meaning input) why refuses is (λ same. sym (ap (λ (l : Result Loaded Status). answer_of (Ok given) l input) same))

ended_refused : (file : Option (List ℕ)) (e why : Status) → Answers file e why → IsRefusal why → e ≡ status.Ended → (why ≡ status.ReadFault → ⊥) → IsEnded why
ended_refused None e why is refusal ends unread = absurd (refusal_unended why refusal (is ∙ ends))
ended_refused (Some file) e why is refusal ends unread =
    let Is : Status → Type 0 = λ x. IsAnswer x why in
    ended_by why (subst Is ends is) unread (refusal_unwritten why refusal)

unwritten : (old : Option Files) (name : List ℕ) → ChangesFile old old name (λ was is. Unit {0})
unwritten None name = refl
unwritten (Some files) name = (tt, λ other differs. refl)

-- a command whose files are refused
pub does_refuse : (Is : Sources → Outcome → Type 0) (r : Reading) (old new : Outside) (why : Status) → AreRefused r old.held why → IsRefusal why → OnlyReads old new (why ≡ status.ReadFault) → Does Is r old why new
does_refuse Is r old new why refused refusal took =
    let Stays : Option Files → Type 0 = λ w. ChangesFile old.written w r.trace (λ was is. Unit {0}) in
    record {
      files = refused.files;
      told = refused.told;
      answers = refused.answers;
      completes = λ ends calm quiet.
          ended_refused (first_file r refused.files) (expected r refused.files) why refused.answers refusal ends (calm_unfailed old.read_faults new.read_faults (why ≡ status.ReadFault) took.cause calm);
      ended = λ at. absurd (refusal_unended why refusal at);
      cut = λ at. absurd (refusal_unwritten why refusal at);
      nothing = λ unended unfailed. record { said = took.said; written = took.written };
      others = subst Stays (sym took.written) (unwritten old.written r.trace);
      held = took.held;
      long_plan = λ n same. subst IsRefusal same refusal;
      long_image = λ n same. subst IsRefusal same refusal;
      long_input = λ n same. subst IsRefusal same refusal;
    }

-- Which file is refused.

are_refused : (r : Reading) (held : Option Files) (plan image input : Option (List ℕ)) (why : Status) → IsFile held r.plan plan → IsFile held (Some r.image) image → IsFile held r.input input
    → Answers (first_named r.plan plan image) (expected r (sources plan image input)) why → AreRefused r held why
are_refused r held plan image input why first second third is = record {
  files = sources plan image input;
  told = told_sources held r plan image input first second third;
  answers = is;
}

refuse_plan : (r : Reading) (held : Option Files) (name : Option (List ℕ)) (why : Status) → r.plan ≡ name → IsPlanRefused held name why → IsRefusal why → AreRefused r held why
refuse_plan r held None why is refused refusal = absurd refused
refuse_plan r held (Some name) why is refused refusal =
    let image = file_held held (Some r.image) in
    let input = file_held held r.input in
    let Told : Option (List ℕ) → Type 0 = λ n. IsFile held n refused.file in
    let meaning = image_from image r.settings.ram in
    let leads = λ (same : plan_from refused.file ≡ Err why). sym (ap (λ (p : Result Assignment Status). answer_of p meaning (input_from input)) same) in
    let By : Option (List ℕ) → Type 0 = λ n. Answers (first_named n refused.file image) (answer_of (plan_by n refused.file) meaning (input_from input)) why in
    are_refused r held refused.file image input why (subst Told (sym is) refused.told) (told_file held (Some r.image)) (told_file held r.input)
    (subst By (sym is) (plan_refused refused.file (answer_of (plan_from refused.file) meaning (input_from input)) why refused.refuses refusal leads))

-- the plan is refused
pub plan_is_refused : (r : Reading) (held : Option Files) (why : Status) → IsPlanRefused held r.plan why → IsRefusal why → AreRefused r held why
plan_is_refused r held why refused refusal = refuse_plan r held r.plan why refl refused refusal

-- the plan is given, and the image is refused
pub image_is_refused : (r : Reading) (held : Option Files) (given : Assignment) (why : Status) → Gives Assignment held r.plan (plan_by r.plan) given
    → IsRefused Loaded held (Some r.image) (λ file. image_from file r.settings.ram) why → IsRefusal why → AreRefused r held why
image_is_refused r held given why gives refused refusal =
    let input = file_held held r.input in
    let meaning = image_from refused.file r.settings.ram in
    let planned : answer_of (Ok given) meaning (input_from input) ≡ expected r (sources gives.file refused.file input) = sym (ap (λ (p : Result Assignment Status). answer_of p meaning (input_from input)) gives.is) in
    let Is : Status → Type 0 = λ e. IsAnswer e why in
    let First : Status → Type 0 = λ e. Answers refused.file e why in
    are_refused r held gives.file refused.file input why gives.told refused.told (told_file held r.input)
    (first_answers r.plan gives.file refused.file given (expected r (sources gives.file refused.file input)) why gives.is
    (subst Is planned (refused_image refused.file given meaning (input_from input) why refused.refuses refusal))
    (λ unnamed. subst First planned (image_answers refused.file given meaning (input_from input) why refused.refuses refusal)))

-- plan and image are given, and the input is refused
pub input_is_refused : (r : Reading) (held : Option Files) (given : Assignment) (start : Loaded) (why : Status) → Gives Assignment held r.plan (plan_by r.plan) given
    → Gives Loaded held (Some r.image) (λ file. image_from file r.settings.ram) start
    → IsRefused (List ℕ) held r.input input_from why → IsRefusal why → AreRefused r held why
input_is_refused r held given start why planned gives refused refusal =
    let meaning = input_from refused.file in
    let e = expected r (sources planned.file gives.file refused.file) in
    let leads = λ (same : meaning ≡ Err why).
    sym (ap (λ (p : Result Assignment Status). answer_of p (image_from gives.file r.settings.ram) meaning) planned.is
    ∙ ap (λ (l : Result Loaded Status). answer_of (Ok given) l meaning) gives.is
    ∙ ap (λ (i : Result (List ℕ) Status). answer_of (Ok given) (Ok start) i) same) in
    let is : IsAnswer e why = refusal_answers (List ℕ) refused.file meaning e why refused.refuses refusal leads in
    are_refused r held planned.file gives.file refused.file why planned.told gives.told refused.told
    (first_answers r.plan planned.file gives.file given e why planned.is is (λ unnamed. given_answers gives.file r.settings.ram start e why gives.is is))

-- Runs.

-- the same left, where the outside was as it is

says_from : (old mid new : Option (List ℕ)) (Change : List ℕ → List ℕ → Type 0) → mid ≡ old → ChangesText mid new Change → ChangesText old new Change
says_from old mid new Change same says = let From : Option (List ℕ) → Type 0 = λ t. ChangesText t new Change in subst From same says

writes_from : (old mid new : Option Files) (name : List ℕ) (Change : Option (List ℕ) → Option (List ℕ) → Type 0) → mid ≡ old → ChangesFile mid new name Change → ChangesFile old new name Change
writes_from old mid new name Change same writes = let From : Option Files → Type 0 = λ t. ChangesFile t new name Change in subst From same writes

all_from : (old mid new : Outside) (file : Option (List ℕ × List ℕ)) → mid.written ≡ old.written → WritesAll mid new file → WritesAll old new file
all_from old mid new None same writes = writes ∙ same
all_from old mid new (Some file) same writes = writes_from old.written mid.written new.written file.0 (Becomes file.1) same writes

part_from : (old mid new : Outside) (file : Option (List ℕ × List ℕ)) → mid.written ≡ old.written → WritesPart mid new file → WritesPart old new file
part_from old mid new None same writes = writes ∙ same
part_from old mid new (Some file) same writes = writes_from old.written mid.written new.written file.0 (BecomesPart file.1) same writes

leaves_from : (o : Outcome) (old mid new : Outside) → mid.said ≡ old.said → mid.written ≡ old.written → Leaves o mid new → Leaves o old new
leaves_from o old mid new said written left = record {
  said = says_from old.said mid.said new.said (Said o.said) said left.said;
  file = all_from old mid new o.file written left.file;
}

leaves_part_from : (o : Outcome) (old mid new : Outside) → mid.said ≡ old.said → mid.written ≡ old.written → LeavesPart o mid new → LeavesPart o old new
leaves_part_from o old mid new said written part = elim part [
  | inl saying ↦
      let broken : BreaksSaying o old new = record {
        said = says_from old.said mid.said new.said (SaidPart o.said) said saying.said;
        written = saying.written ∙ written;
      } in
      inl broken
  | inr writing ↦
      let broken : BreaksWriting o old new = record {
        said = says_from old.said mid.said new.said (Said o.said) said writing.said;
        file = part_from old mid new o.file written writing.file;
      } in
      inr broken
]

run_answers : (answer : Status) → IsOfRun answer → IsAnswer status.Ended answer
run_answers status.Ended of = refl
run_answers status.OutOfMemory of = tt
run_answers status.WriteFault of = refl
run_answers status.ReadFault of = absurd of
run_answers status.Usage of = absurd of
run_answers (status.ImageRefused fault) of = absurd of
run_answers (status.PlanRefused fault) of = absurd of
run_answers (status.InputTooLong n) of = absurd of

run_read : (answer : Status) → IsOfRun answer → answer ≢ status.ReadFault
run_read answer of same = subst IsOfRun same of

-- The files that give plan, image and input.

abbrev files_of : {r : Reading} {held : Option Files} {inputs : Inputs} → AreGiven r held inputs → Sources
files_of given = sources given.plan.file given.image.gives.file given.input.file

-- nothing is refused, and a run did the rest
pub does_run : (Is : Sources → Outcome → Type 0) (r : Reading) (old mid new : Outside) (inputs : Inputs) (answer : Status) (Fails : Type 0) → (given : AreGiven r old.held inputs)
    → OnlyReads old mid Fails → IsOfRun answer
    → (answer ≡ status.Ended → LeavesOne (Is (files_of given)) mid new)
    → (answer ≡ status.WriteFault → LeavesPartOfOne (Is (files_of given)) mid new)
    → (answer ≢ status.Ended → answer ≢ status.WriteFault → LeavesNothing mid new) → Writes mid new r.trace (λ was is. Unit {0})
    → OnlyLeaves mid new (answer ≡ status.WriteFault) → Does Is r old answer new
does_run Is r old mid new inputs answer Fails given took of ended cut nothing others left =
    let plan_given = given.plan in
    let image_given = given.image.gives in
    let input_given = given.input in
    let start = given.image.start in
    let files : Sources = files_of given in
    let ends : expected r files ≡ status.Ended =
    ap (λ (p : Result Assignment Status). answer_of p (image_from image_given.file r.settings.ram) (input_from input_given.file)) plan_given.is
    ∙ ap (λ (l : Result Loaded Status). answer_of (Ok (shown inputs.plan)) l (input_from input_given.file)) image_given.is
    ∙ ap (λ (i : Result (List ℕ) Status). answer_of (Ok (shown inputs.plan)) (Ok start) i) input_given.is in
    let By : Status → Type 0 = λ e. IsAnswer e answer in
    let Quiet : ℕ → Type 0 = λ n. IsCalm n new.write_faults in
    let is = run_answers answer of in
    let answered : IsAnswer (expected r files) answer = subst By (sym ends) is in
    record {
      files = files;
      told = told_sources old.held r plan_given.file image_given.file input_given.file plan_given.told image_given.told input_given.told;
      answers = first_answers r.plan plan_given.file image_given.file (shown inputs.plan) (expected r files) answer plan_given.is answered
          (λ unnamed. given_answers image_given.file r.settings.ram start (expected r files) answer image_given.is answered);
      completes = λ expects calm quiet.
          ended_by answer is (run_read answer of)
          (calm_unfailed mid.write_faults new.write_faults (answer ≡ status.WriteFault) left.cause (subst Quiet (sym took.write_faults) quiet));
      ended = λ at.
          let one = ended at in
          record { outcome = one.outcome; is = one.is; left = leaves_from one.outcome old mid new took.said took.written one.left };
      cut = λ at.
          let one = cut at in
          record { outcome = one.outcome; is = one.is; left = leaves_part_from one.outcome old mid new took.said took.written one.left };
      nothing = λ unended unfailed.
          let none = nothing unended unfailed in
          record { said = none.said ∙ took.said; written = none.written ∙ took.written };
      others = writes_from old.written mid.written new.written r.trace (λ was is. Unit {0}) took.written others;
      held = left.held ∙ took.held;
      long_plan = λ n is_long. absurd (let At : Status → Type 0 = IsOfRun in subst At is_long of);
      long_image = λ n is_long. absurd (let At : Status → Type 0 = IsOfRun in subst At is_long of);
      long_input = λ n is_long. absurd (let At : Status → Type 0 = IsOfRun in subst At is_long of);
    }

-- Outcomes of the files.

-- the one of `solo`
pub outcome_solo : (r : Reading) (held : Option Files) (inputs : Inputs) (given : AreGiven r held inputs)
    → IsOutcome r (files_of given) (outcome_of_run r (shown inputs.plan).engines (setup_of given.image.start inputs.input.items r.settings))
outcome_solo r held inputs given =
    let plan = given.plan in
    let image = given.image.gives in
    let input = given.input in
    sym (ap (λ (p : Result Assignment Status). outcome_of r p (image_from image.file r.settings.ram) (input_from input.file)) plan.is
    ∙ ap (λ (l : Result Loaded Status). outcome_of r (Ok (shown inputs.plan)) l (input_from input.file)) image.is
    ∙ ap (λ (i : Result (List ℕ) Status). outcome_of r (Ok (shown inputs.plan)) (Ok given.image.start) i) input.is)

-- one of `run`
pub outcome_run : (r : Reading) (held : Option Files) (inputs : Inputs) (given : AreGiven r held inputs) (o : Outcome)
    → IsRunOutcome r (shown inputs.plan).engines (setup_of given.image.start inputs.input.items r.settings) o → IsOutcomeOfRun r (files_of given) o
outcome_run r held inputs given o of = record {
  plan = shown inputs.plan;
  image = given.image.start;
  input = inputs.input.items;
  plan_is = given.plan.is;
  image_is = given.image.gives.is;
  input_is = given.input.is;
  of_run = of;
}
