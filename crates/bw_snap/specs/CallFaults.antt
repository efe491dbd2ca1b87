-- The fault of a call of which a scan is a part.
use Rattle.bw_procedures.specs.declared.fault.Fault.{Fault}
use Rattle.bw_procedures.specs.declared.fault.Fault.TheVariants as faults
use Rattle.bw_snap.specs.declared.fault.ScanFault.{ScanFault}
use Rattle.bw_snap.specs.declared.fault.ScanFault.TheVariants as scans

-- a published table that gave no entry may be asked again
abbrev pub call_fault : ScanFault → Fault
call_fault scans.Closed = faults.Contended
call_fault scans.NoMemory = faults.NoMemory
