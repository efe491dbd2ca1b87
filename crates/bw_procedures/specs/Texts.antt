-- What a reply reads as.
use Rattle.std.specs.Prelude.{ℕ, ◌++◌, List, Option, Some, None, codes, decimal}
use Rattle.bw_procedures.specs.declared.fault.Fault.{Fault}
use Rattle.bw_procedures.specs.declared.reply.Del.{Del}
use Rattle.bw_procedures.specs.declared.reply.Del.TheVariants as dels
use Rattle.bw_procedures.specs.declared.reply.Put.{Put}
use Rattle.bw_procedures.specs.declared.reply.Put.TheVariants as puts
use Rattle.bw_procedures.specs.declared.reply.Set.{Set}
use Rattle.bw_procedures.specs.declared.reply.Set.TheVariants as sets
use Rattle.bw_procedures.specs.declared.reply.Reply.{Reply}
use Rattle.bw_procedures.specs.declared.reply.Reply.TheVariants as replies

abbrev pub put_text : Put → List ℕ
put_text puts.Inserted = codes "inserted"
put_text (puts.Present value) = codes "present " ++ decimal value

abbrev pub set_text : Set → List ℕ
set_text sets.Inserted = codes "inserted"
set_text (sets.Replaced old) = codes "replaced " ++ decimal old

abbrev pub delete_text : Del → List ℕ
delete_text (dels.Removed value) = codes "removed " ++ decimal value
delete_text dels.NoKey = codes "nokey"

abbrev pub get_text : Option ℕ → List ℕ
get_text (Some value) = codes "found " ++ decimal value
get_text None = codes "none"

-- nothing is claimed of a text with a fault in it
abbrev pub text_without : Option Fault → List ℕ → Option (List ℕ)
text_without None text = Some text
text_without (Some fault) text = None

abbrev pub clear_text : ℕ → List ℕ
clear_text removed = codes "cleared " ++ decimal removed

abbrev pub reply_text : Reply → Option (List ℕ)
reply_text (replies.Put done) = text_without done.fault (put_text done.reply)
reply_text (replies.Set done) = text_without done.fault (set_text done.reply)
reply_text (replies.Delete done) = text_without done.fault (delete_text done.reply)
reply_text (replies.Get found) = Some (get_text found)
reply_text (replies.Clear cleared) = text_without cleared.fault (clear_text cleared.removed)
