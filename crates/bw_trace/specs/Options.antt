-- What the words of a command ask for.
use Rattle.std.specs.Prelude.{◌≡◌, ◌≤◌, ℕ, List, Bool, true, false, Option, Some, None, IfSome, codes}
use Rattle.std.specs.Str.Parse.{digits_value, without_leading_plus}
use Rattle.clap.specs.Words.{one_text}
use Rattle.clap.specs.declared.parser.matches.Found.{Found}
use Rattle.bw_keys.specs.Limits.{first_bad_field}
use Rattle.bw_run.specs.Faults.{most_readers}
use Rattle.bw_trace.specs.declared.program.setting.Setting.{Setting}
use Rattle.bw_trace.specs.declared.program.run_options.RunOptions.{RunOptions}
use Rattle.bw_trace.specs.declared.program.show_options.ShowOptions.{ShowOptions}
use Rattle.bw_trace.specs.declared.program.show_options.DrawOptions.{DrawOptions}
use Rattle.bw_trace.specs.declared.program.film_options.FilmOptions.{FilmOptions}

-- the digits that were found for the name write the number
abbrev pub IsNumberFor : Found → List ℕ → ℕ → Type 0
IsNumberFor found name number =
    (text : List ℕ) × (one_text found name ≡ Some text) × (number ≡ digits_value 10 (without_leading_plus text))

-- a number is that which was found for the name, and there is none where nothing was
pub record IsOptionFor (found : Found) (name : List ℕ) (number : Option ℕ) : Type 0 where
  pub given : IfSome number (IsNumberFor found name)
  pub missing : one_text found name ≡ None → number ≡ None

-- the flag of the name is given, or it isn't
pub record IsFlagFor (found : Found) (name : List ℕ) (is_given : Bool) : Type 0 where
  pub given : one_text found name ≡ Some (codes "true") → is_given ≡ true
  pub missing : one_text found name ≡ Some (codes "false") → is_given ≡ false

-- each option is what was found for its own name
pub record IsSettingFor (found : Found) (setting : Setting) : Type 0 where
  pub fanout : IsNumberFor found (codes "fanout") setting.config.fanout
  pub chain : IsNumberFor found (codes "chain") setting.config.chain
  pub pages : IsNumberFor found (codes "pages") setting.config.pages
  pub tries : IsNumberFor found (codes "tries") setting.config.tries
  pub workers : IsNumberFor found (codes "workers") setting.workers
  pub readers : IsNumberFor found (codes "readers") setting.readers

-- a trace can be run so
pub record IsFit (setting : Setting) : Type 0 where
  pub config : first_bad_field setting.config ≡ None
  pub version : setting.config.first_version ≡ 0
  pub some_workers : 1 ≤ setting.workers
  pub few_workers : setting.workers ≤ 64
  pub few_readers : setting.readers ≤ most_readers setting.workers

pub record IsAskedFor (found : Found) (options : RunOptions) : Type 0 where
  pub setting : IsSettingFor found options.setting
  pub trees : IsOptionFor found (codes "trees") options.trees
  pub replies : IsFlagFor found (codes "replies") options.replies
  pub history : IsFlagFor found (codes "history") options.history
  pub quiet : IsFlagFor found (codes "quiet") options.quiet

pub record IsShownBy (found : Found) (options : ShowOptions) : Type 0 where
  pub setting : IsSettingFor found options.setting
  pub steps : IsFlagFor found (codes "steps") options.steps
  pub after : IsOptionFor found (codes "after") options.after

pub record IsDrawnBy (found : Found) (options : DrawOptions) : Type 0 where
  pub shown : IsShownBy found options.shown
  pub key : IsOptionFor found (codes "key") options.key

-- the last moment isn't before the first one
abbrev pub IsForward : Option ℕ → Option ℕ → Type 0
IsForward (Some from) (Some to) = from ≤ to
IsForward from to = Unit

pub record IsFilmedBy (found : Found) (options : FilmOptions) : Type 0 where
  pub setting : IsSettingFor found options.setting
  pub steps : IsFlagFor found (codes "steps") options.steps
  pub from : IsOptionFor found (codes "from") options.from
  pub to : IsOptionFor found (codes "to") options.to
  pub key : IsOptionFor found (codes "key") options.key
