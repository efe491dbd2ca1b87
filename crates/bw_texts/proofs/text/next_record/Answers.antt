use Rattle.csv.specs.Reading.{default_config, strip_bom}
use Rattle.csv.specs.Records.{fields_of}
use Rattle.csv.specs.declared.parser.State.TheVariants as st
use Rattle.csv.proofs.ReadFacts.{rows-more}
use Rattle.bw_texts.proofs.text.next_record.Goals as goal

pub returns-in-Ok-clause-more : goal.returns-in-Ok-clause-more
returns-in-Ok-clause-more g c = λ found bytes records before.
    let reads = rw found at (c.in-Ok.ensures.reads c.requires.whole c.requires.ready) in
    rows-more g.R.Read.remaining c.args.reader.now c.read_byte_record.new.self (fields_of c.read_byte_record.new.row)
    default_config st.StartRecord (strip_bom bytes) before.0 records c.requires.plain before.1 before.2 reads
