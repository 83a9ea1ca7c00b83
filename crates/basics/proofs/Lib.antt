-- SPDX-License-Identifier: Apache-2.0
pub mod Tests
pub mod Members
pub mod Maps
pub mod Keeps
pub mod Capacities
pub mod Fills
