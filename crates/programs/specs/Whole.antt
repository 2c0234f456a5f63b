-- Whole runs: machines are made of what the host has, and a script is played or followed on them.
use Rattle.std.specs.Prelude.{◌≡◌, ◌⊎◌, ℕ, Bool, true, false, List, [], ◌∷◌}
use Rattle.std.specs.Prelude.{Option}
use Rattle.ckd_volume.specs.Volume.{VolumeFormat}
use Rattle.sessions.specs.Installed.{Installation}
use Rattle.sessions.specs.declared.schedule.Detail.{Detail}
use Rattle.sessions.specs.declared.schedule.Detail.TheVariants.{Whole, Terminals}
use Rattle.programs.specs.Arguments.{IsUnbegun}
use Rattle.program_host.specs.Deeds.{Adds, Deed, Listens, Prints}
use Rattle.programs.specs.Opened.{Making, Unmaking}
use Rattle.programs.specs.Parts.{FailureCounts}
use Rattle.programs.specs.Runs.{IsFailedFollowing, IsFailedRun, IsFollowing, IsRun}
use Rattle.programs.specs.declared.faults.Failure.{Failure}

-- which lines of turns a transcript has
abbrev pub detail_of : Bool → Detail
detail_of true = Terminals
detail_of false = Whole

-- ---- a script that is played

-- machines were made, the script was played on them, and the images were saved
pub record IsWholeRun {W F : Type 0} (i : Installation W) (volumes : W → List VolumeFormat)
    (Made : Making W) (Gives : List ℕ → F → Type 0) (remaining : F → Option (List ℕ))
    (script : List ℕ) (saved : List (List ℕ)) (deeds_old deeds_new : Option (List Deed))
    (writer_old writer_new : Option (List ℕ)) : Type 0 where
  pub first : W
  pub last : W
  pub between : Option (List Deed)
  pub made : Made deeds_old between first
  pub run : IsRun i volumes Gives remaining script saved first last between deeds_new writer_old
      writer_new

-- machines were made, and the script was not played to its end, or an image not saved
pub record IsBrokenRun {W F : Type 0} (i : Installation W) (volumes : W → List VolumeFormat)
    (Made : Making W) (Gives : List ℕ → F → Type 0) (remaining : F → Option (List ℕ))
    (count : F → ℕ) (script : List ℕ) (saved : List (List ℕ))
    (deeds_old deeds_new : Option (List Deed)) (writer_old writer_new : Option (List ℕ))
    (failed_old failed_new : ℕ) (failure : Failure) : Type 0 where
  pub first : W
  pub last : W
  pub between : Option (List Deed)
  pub made : Made deeds_old between first
  pub failed : IsFailedRun i volumes Gives remaining count script saved first last between deeds_new
      writer_old writer_new failed_old failed_new failure

-- no machines were made, for a cause, and nothing was written or saved; or some were
abbrev pub IsFailedWholeRun : {W F : Type 0} → Installation W → (W → List VolumeFormat) → Making W
    → Unmaking → (List ℕ → F → Type 0) → (F → Option (List ℕ)) → (F → ℕ) → List ℕ
    → List (List ℕ) → Option (List Deed) → Option (List Deed) → Option (List ℕ)
    → Option (List ℕ) → ℕ → ℕ → Failure → Type 0
IsFailedWholeRun i volumes Made Unmade Gives remaining count script saved deeds_old deeds_new
    writer_old writer_new failed_old failed_new failure =
    (Unmade deeds_old deeds_new failure × (writer_new ≡ writer_old))
    ⊎ IsBrokenRun i volumes Made Gives remaining count script saved deeds_old deeds_new writer_old
    writer_new failed_old failed_new failure

-- ---- a script that is followed

-- machines were made, the parts of a script were followed on them, and the images were saved if the
-- input asked for its end
pub record IsWholeFollowing {W : Type 0} (i : Installation W) (volumes : W → List VolumeFormat)
    (Made : Making W) (detail : Detail) (saved : List (List ℕ))
    (deeds_old deeds_new : Option (List Deed))
    (reader_old reader_new writer_old writer_new : Option (List ℕ)) : Type 0 where
  pub first : W
  pub between : Option (List Deed)
  pub made : Made deeds_old between first
  pub followed : IsFollowing i volumes detail saved first between deeds_new reader_old reader_new
      writer_old writer_new

-- machines were made, and the parts were not followed to their end, or an image not saved
pub record IsBrokenFollowing {W : Type 0} (i : Installation W) (volumes : W → List VolumeFormat)
    (Made : Making W) (detail : Detail) (saved : List (List ℕ))
    (deeds_old deeds_new : Option (List Deed))
    (reader_old reader_new writer_old writer_new : Option (List ℕ)) (counts : FailureCounts)
    (failure : Failure) : Type 0 where
  pub first : W
  pub between : Option (List Deed)
  pub made : Made deeds_old between first
  pub failed : IsFailedFollowing i volumes detail saved first between deeds_new reader_old
      reader_new writer_old writer_new counts failure

-- no machines were made, for a cause, and nothing was read, written or saved; or some were
abbrev pub IsFailedWholeFollowing : {W : Type 0} → Installation W → (W → List VolumeFormat)
    → Making W → Unmaking → Detail → List (List ℕ) → Option (List Deed) → Option (List Deed)
    → Option (List ℕ) → Option (List ℕ) → Option (List ℕ) → Option (List ℕ) → FailureCounts
    → Failure → Type 0
IsFailedWholeFollowing i volumes Made Unmade detail saved deeds_old deeds_new reader_old reader_new
    writer_old writer_new counts failure =
    (Unmade deeds_old deeds_new failure × (reader_new ≡ reader_old) × (writer_new ≡ writer_old))
    ⊎ IsBrokenFollowing i volumes Made detail saved deeds_old deeds_new reader_old reader_new
    writer_old writer_new counts failure

-- ---- what words ask for

-- the files and streams that a host gives
pub record HostStreams (F I O : Type 0) : Type 1 where
  -- what opening a path gives, what is left to read of a file, how often it has failed
  pub Gives : List ℕ → F → Type 0
  pub remaining : F → Option (List ℕ)
  pub file_failures : F → ℕ
  -- what standard input is when it is asked for, what is left to read of it, and how often it has
  -- failed
  pub Listened : I → Type 0
  pub typed : I → Option (List ℕ)
  pub input_failures : I → ℕ
  -- what standard output is when it is asked for, what was written to it, what it holds back, and
  -- how often it has failed
  pub Printed : Bool → O → Type 0
  pub contents : O → Option (List ℕ)
  pub held : O → List ℕ
  pub output_failures : O → ℕ

-- these, one by one
abbrev pub streams_of : {F I O : Type 0} → (List ℕ → F → Type 0) → (F → Option (List ℕ)) → (F → ℕ)
    → (I → Type 0) → (I → Option (List ℕ)) → (I → ℕ) → (Bool → O → Type 0)
    → (O → Option (List ℕ)) → (O → List ℕ) → (O → ℕ) → HostStreams F I O
streams_of Gives remaining file_failures Listened typed input_failures Printed contents held
    output_failures = record {
      Gives = Gives;
      remaining = remaining;
      file_failures = file_failures;
      Listened = Listened;
      typed = typed;
      input_failures = input_failures;
      Printed = Printed;
      contents = contents;
      held = held;
      output_failures = output_failures;
    }

-- what options make of standard output
abbrev pub Plays : Type 0 → Type 1
Plays N = N → Option (List Deed) → Option (List Deed) → Option (List ℕ) → Option (List ℕ) → Type 0

-- where that fails, by how often standard output has failed before and after
abbrev pub PlayFails : Type 0 → Type 1
PlayFails N = N → Option (List Deed) → Option (List Deed) → Option (List ℕ) → Option (List ℕ)
    → ℕ → ℕ → Failure → Type 0

-- what options make of standard input and output
abbrev pub Follows : Type 0 → Type 1
Follows N = N → Option (List Deed) → Option (List Deed) → Option (List ℕ) → Option (List ℕ)
    → Option (List ℕ) → Option (List ℕ) → Type 0

-- where that fails, by how often these have failed
abbrev pub FollowFails : Type 0 → Type 1
FollowFails N = N → Option (List Deed) → Option (List Deed) → Option (List ℕ) → Option (List ℕ)
    → Option (List ℕ) → Option (List ℕ) → FailureCounts → Failure → Type 0

-- a script was played by the options that words name, and all of its transcript is on standard
-- output
pub record IsRunNamed {N F I O : Type 0} (host : HostStreams F I O) (Named : N → Type 0)
    (Ran : Plays N) (is_watched : Bool) (deeds_old deeds_new : Option (List Deed)) : Type 0 where
  pub options : N
  pub output : O
  pub left : O
  pub between : Option (List Deed)
  pub named : Named options
  pub printed : host.Printed is_watched output
  pub asked : Adds deeds_old between (Prints is_watched ∷ [])
  pub ran : Ran options between deeds_new (host.contents output) (host.contents left)
  pub flushed : host.held left ≡ []

-- a run by the options that words name has failed, with that on standard output
pub record IsFailedRunNamed {N F I O : Type 0} (host : HostStreams F I O) (Named : N → Type 0)
    (Failed : PlayFails N) (is_watched : Bool) (deeds_old deeds_new : Option (List Deed))
    (failure : Failure) : Type 0 where
  pub options : N
  pub output : O
  pub left : O
  pub between : Option (List Deed)
  pub named : Named options
  pub printed : host.Printed is_watched output
  pub asked : Adds deeds_old between (Prints is_watched ∷ [])
  pub failed : Failed options between deeds_new (host.contents output) (host.contents left)
      (host.output_failures output) (host.output_failures left) failure

-- or nothing was begun
abbrev pub IsFailedToRun : {N F I O : Type 0} → HostStreams F I O → (N → Type 0)
    → PlayFails N → Type 0 → Bool → Unmaking
IsFailedToRun host Named Failed Misuse is_watched deeds_old deeds_new failure =
    IsUnbegun (Prints is_watched ∷ []) Misuse deeds_old deeds_new failure
    ⊎ IsFailedRunNamed host Named Failed is_watched deeds_old deeds_new failure

-- the parts of a script on standard input were followed by the options that words name, and all
-- answers are on standard output
pub record IsFollowingNamed {N F I O : Type 0} (host : HostStreams F I O) (Named : N → Type 0)
    (Followed : Follows N) (deeds_old deeds_new : Option (List Deed)) : Type 0 where
  pub options : N
  pub input : I
  pub heard : I
  pub output : O
  pub left : O
  pub between : Option (List Deed)
  pub named : Named options
  pub listened : host.Listened input
  pub printed : host.Printed false output
  pub asked : Adds deeds_old between (Listens ∷ Prints false ∷ [])
  pub followed : Followed options between deeds_new (host.typed input) (host.typed heard)
      (host.contents output) (host.contents left)
  pub flushed : host.held left ≡ []

-- a following by the options that words name has failed, with that on standard input and output
pub record IsFailedFollowingNamed {N F I O : Type 0} (host : HostStreams F I O)
    (Named : N → Type 0)
    (Failed : FollowFails N) (deeds_old deeds_new : Option (List Deed))
    (failure : Failure) : Type 0 where
  pub options : N
  pub input : I
  pub heard : I
  pub output : O
  pub left : O
  pub between : Option (List Deed)
  pub named : Named options
  pub listened : host.Listened input
  pub printed : host.Printed false output
  pub asked : Adds deeds_old between (Listens ∷ Prints false ∷ [])
  pub failed : Failed options between deeds_new (host.typed input) (host.typed heard)
      (host.contents output) (host.contents left)
      (record {
        reader_old = host.input_failures input;
        reader_new = host.input_failures heard;
        writer_old = host.output_failures output;
        writer_new = host.output_failures left;
      }) failure

-- or nothing was begun
abbrev pub IsFailedToFollow : {N F I O : Type 0} → HostStreams F I O → (N → Type 0)
    → FollowFails N → Type 0 → Unmaking
IsFailedToFollow host Named Failed Misuse deeds_old deeds_new failure =
    IsUnbegun (Listens ∷ Prints false ∷ []) Misuse deeds_old deeds_new failure
    ⊎ IsFailedFollowingNamed host Named Failed deeds_old deeds_new failure
